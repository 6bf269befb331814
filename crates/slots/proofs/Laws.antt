-- The laws of slot lines in a row, by topic.
pub mod Offering
pub mod Running
