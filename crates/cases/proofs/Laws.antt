-- The cases hold, and the premise is met.
pub mod Examples
pub mod Meeting
