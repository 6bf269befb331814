-- What the program's functions promise of the script that they read.
pub mod Buffers
