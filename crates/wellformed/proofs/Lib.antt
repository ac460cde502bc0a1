-- The laws that the proofs of the crate wellformed cite.
pub mod OrderLaws
pub mod EntryTestLaws
pub mod PassLaws
