pub mod Varint
pub mod Fields
pub mod Faults
pub mod Outcome
pub mod Reading
pub mod Laid
