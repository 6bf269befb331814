-- How long an offer can be put off, and runs that take as long.
pub mod Wait
pub mod Longest
