-- What is computed of the cases.
pub mod Laws
