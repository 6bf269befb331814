-- What is proved of a kept state beside the functions.
pub mod Laws
