-- The definitions of the crate lexicographic.
pub mod Answers
