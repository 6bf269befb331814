-- The definitions of slot lines that are taken in a row, and what only the functions inside cite.
pub mod Lines
pub mod Inner
