-- The definitions of the crate completion, and then its laws.
pub mod Completion
pub mod CompletionLaws
