-- The laws that the proofs of the crate completion cite.
pub mod Values
