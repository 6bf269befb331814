-- The cause of a verdict (document 02, Point 2), what makes it the true one, and what the call answers.
pub mod Cause
pub mod Reason
pub mod Explaining
