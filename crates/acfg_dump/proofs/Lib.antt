pub mod Extents
pub mod Firsts
pub mod Joined
pub mod OneCondition
pub mod SomeReading
pub mod Spelling
