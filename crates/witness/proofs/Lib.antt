-- The laws that the proofs of the crate witness cite.
pub mod ShownLaws
