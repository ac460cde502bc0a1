-- The laws that the proofs of containment cite.
pub mod SetSearch
