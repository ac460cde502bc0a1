-- The laws that the proofs of the crate word cite.
pub mod Listed
pub mod PatternSet
pub mod EarliestLaws
pub mod InversionLaws
pub mod Chains
