mod Leading
mod Resting
mod Viable
mod Ending
mod Stopping
mod Quotes
pub mod Scans
mod Lexing
mod Numbers
mod Parts
mod Plainness
mod Slices
mod Steps
mod Failures
pub mod Wholes
mod Onward
mod Folded
mod Utf8Bytes
mod Reprinted
mod Soundness
mod Again
