-- The laws that the proofs of the crate count_cursor use.
pub mod FindLaws
