pub mod Compile
pub mod Flags
pub mod Messages
pub mod Numbers
pub mod Places
pub mod Reading
pub mod Releases
pub mod Walk
