pub mod Exact
pub mod NameFacts
pub mod FileFacts
pub mod Opened
pub mod Buckets
pub mod Parts
