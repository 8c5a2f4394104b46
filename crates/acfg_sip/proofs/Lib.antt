pub mod BucketFacts
pub mod Holding
pub mod Numbers
pub mod Rounds
pub mod Words
