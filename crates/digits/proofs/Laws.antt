-- The laws of lanes and digits, by topic.
pub mod Joining
pub mod Gathering
pub mod Folding
pub mod Marking
