-- The laws of scripts and replays, by topic.
pub mod Decimals
pub mod Lengths
pub mod Putting
pub mod Reading
pub mod Splitting
pub mod Carrying
pub mod Feeding
pub mod Plain
