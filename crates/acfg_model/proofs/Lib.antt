pub mod Carried
pub mod Installed
pub mod Kept
pub mod Renewals
pub mod Rowed
pub mod Shown
pub mod Tabled
pub mod Valid
