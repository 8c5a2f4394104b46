mod Applied
mod Blank
mod Distinct
pub mod Exists
pub mod Few
mod FieldsRead
mod Numbered
mod Fronts
mod Moved
mod Named
pub mod OneAnswer
mod System
mod Tested
mod Twins
pub mod Unique
mod Valued
mod Walks
