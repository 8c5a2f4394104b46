mod Committing
pub mod Files
mod Putting
mod Replacing
mod Settled
mod Speaking
mod Writing
