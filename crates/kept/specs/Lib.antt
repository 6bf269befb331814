-- What a kept state stands for, and what the functions on it promise each other and the crates that run on it. No contract of a public
-- call of the regulator or of the replay cites this.
pub mod Tables
pub mod Numbers
pub mod Grant
pub mod Deciding
