-- What is promised of a part of the input that is read behind what is left of the one before it.
pub mod Input
