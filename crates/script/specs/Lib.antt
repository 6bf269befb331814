-- The definitions of the script and the replay, in the order in which document 01 gives them; then those of the lent buffer, of a
-- script that is taken part by part, and of what only the functions inside cite.
pub mod Line
pub mod Text
pub mod Replay
pub mod Output
pub mod Feeding
pub mod Inner
