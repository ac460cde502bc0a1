-- The definitions of the crate lost_word.
pub mod Shown
