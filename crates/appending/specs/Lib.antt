-- The definitions of the crate appending, and then its laws.
pub mod Appending
pub mod Pairs
pub mod PairLaws
pub mod AppendingLaws
