pub mod Keys
pub mod Maps
pub mod Neighbours
pub mod Rows
pub mod Sorting
