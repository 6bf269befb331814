-- What is proved of lanes and digits beside the functions.
pub mod Laws
