-- What is proved of the questions.
pub mod Laws
