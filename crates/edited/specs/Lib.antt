-- Edits and rescues with what they answer and leave.
pub mod Files
pub mod Edits
pub mod Rescues
