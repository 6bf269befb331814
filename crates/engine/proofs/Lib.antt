-- What is proved of the second engine beside the functions.
pub mod Laws
