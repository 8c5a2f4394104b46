pub mod Account
pub mod Calls
pub mod Disk
pub mod Left
pub mod Only
pub mod Outcomes
pub mod Panel
