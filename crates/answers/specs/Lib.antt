-- Questions with their answers.
pub mod Questions
