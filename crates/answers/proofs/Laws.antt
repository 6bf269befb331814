-- The answers, computed.
pub mod Answers
