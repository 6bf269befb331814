-- What a case is, the cases as one list, and the premise that is met.
pub mod Case
pub mod Cases
pub mod Forecasts
pub mod Leftovers
pub mod Starred
pub mod Premise
