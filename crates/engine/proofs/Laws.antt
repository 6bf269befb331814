-- The laws of the second engine, by topic.
pub mod Lowest
pub mod Masking
pub mod Rulings
pub mod Alike
