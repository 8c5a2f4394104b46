pub mod Bodies
pub mod Lines
pub mod Playing
pub mod Replayed
pub mod Replies
pub mod Requests
pub mod Sources
pub mod Transcript
