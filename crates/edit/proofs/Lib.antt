-- What is proved of edits beside the functions.
pub mod Laws
