pub mod Cut
pub mod Held
pub mod History
pub mod Kept
pub mod Slots
pub mod Tied
