-- The laws that the proofs of the crate scheme cite.
pub mod PrefixLaws
pub mod LookupLaws
