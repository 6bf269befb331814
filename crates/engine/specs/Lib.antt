-- The definitions of the second engine: masks and the number that they grant, what a slot call by masks answers, and what only the
-- functions inside cite.
pub mod Masks
pub mod Engine
pub mod Inner
