-- The laws of questions, by topic.
pub mod Slots
pub mod Answers
pub mod Searching
