-- The laws that the proofs of the crate lost_word cite.
pub mod LeastWalk
