pub mod Buckets
pub mod Hasher
pub mod SipHash
pub mod Word
