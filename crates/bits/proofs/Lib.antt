-- What is proved of bits beside the functions.
pub mod Laws
