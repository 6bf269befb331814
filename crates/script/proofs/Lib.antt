-- What is proved of scripts and replays beside the functions.
pub mod Laws
