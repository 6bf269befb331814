-- The laws of a kept state, by topic.
pub mod Leaves
pub mod Taking
pub mod Giving
pub mod Slotting
pub mod Readying
