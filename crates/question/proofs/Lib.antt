-- What is proved of questions beside the functions.
pub mod Laws
