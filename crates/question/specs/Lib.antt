-- The definitions of a question about a verdict (document 02, Point 2): the file `ask`, the slot that it names, and the line that answers
-- it; then those of a script that is taken part by part, and of what only the functions inside cite.
pub mod Ask
pub mod Slots
pub mod Answer
pub mod Seeking
pub mod Inner
