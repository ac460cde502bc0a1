-- The definitions of the crate turns.
pub mod Turns
