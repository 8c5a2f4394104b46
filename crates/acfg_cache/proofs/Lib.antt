pub mod Passed
mod Steps
pub mod MadeFlags
mod Opened
mod FlagReading
pub mod Orders
mod RowOrder
mod RowLists
mod Taking
pub mod OneReading
mod Spelled
mod Bare
mod Said
mod Again
pub mod OneMerging
mod ReadFlags
mod Ends
