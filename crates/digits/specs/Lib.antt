-- The definitions of bytes side by side in one number and of digits read as two masks.
pub mod Lanes
