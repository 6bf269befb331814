-- The proof of the bound, and the runs that take as long.
pub mod Ahead
pub mod Counting
pub mod Turning
pub mod Waiting
pub mod Worked
