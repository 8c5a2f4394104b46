pub mod Spoken
pub mod Written
