pub mod Folder
pub mod Host
