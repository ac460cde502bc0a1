-- The laws that the proofs of the crate forms cite.
pub mod CodeWalk
