pub mod VarintLoop
pub mod VarintFacts
pub mod FieldFacts
pub mod FaultFacts
pub mod Once
pub mod Joined
pub mod Ends
pub mod Answer
pub mod Outcomes
pub mod Put
pub mod Shortest
mod LaidFacts
pub mod Laying
