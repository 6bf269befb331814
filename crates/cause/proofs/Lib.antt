-- What is proved of causes beside the functions.
pub mod Laws
