-- The starred examples of document 01.
pub mod Utf8
pub mod Starred
