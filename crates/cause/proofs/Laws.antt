-- The laws of causes, by topic.
pub mod Truth
pub mod Explaining
