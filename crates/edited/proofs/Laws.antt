-- The outcomes, computed.
pub mod Outcomes
