pub mod Bodies
pub mod Filter
pub mod Lines
pub mod Names
pub mod Parts
pub mod Template
