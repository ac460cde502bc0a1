-- The definitions of the crate insertion, and then its laws.
pub mod Insertion
pub mod InsertionLaws
