-- The laws that the proofs of the crate basis cite.
pub mod BasisWalk
