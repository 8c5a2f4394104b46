pub mod Chain
pub mod Counting
pub mod Listing
pub mod Sound
pub mod Walks
