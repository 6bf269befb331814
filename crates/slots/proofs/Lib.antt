-- What is proved of slot lines in a row beside the functions.
pub mod Laws
