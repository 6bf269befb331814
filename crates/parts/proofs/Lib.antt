-- What is proved of bytes that are read beside the functions.
pub mod Laws
