pub mod Bodies
pub mod Codes
pub mod FlagStates
pub mod Machines
pub mod Refusals
pub mod State
pub mod Step
pub mod Views
