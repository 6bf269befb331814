-- The laws of bytes that are read behind others.
pub mod Reading
