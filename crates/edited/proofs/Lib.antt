-- What is proved of the edits.
pub mod Laws
