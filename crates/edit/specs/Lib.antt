-- Edits of a plan file, in the order of document 02, Points 4 and 14.
pub mod Laying
pub mod Dropping
pub mod Adding
pub mod Compaction
pub mod Rescue
pub mod Faults
pub mod Inner
