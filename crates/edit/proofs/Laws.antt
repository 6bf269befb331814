-- The laws of edits, by topic.
pub mod Records
pub mod Laying
pub mod Rereading
pub mod Without
pub mod Dropping
pub mod Adding
pub mod Compaction
pub mod Rescue
pub mod Storing
pub mod Listing
pub mod Writing
