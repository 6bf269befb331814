-- The definition that speaks of a mask's bits, which the crates above cite.
pub mod Bits
