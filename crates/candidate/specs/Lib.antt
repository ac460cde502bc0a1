-- The definitions of the crate candidate.
pub mod Ready
