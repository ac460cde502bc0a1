-- The laws that the proofs of the crate count_plain use.
pub mod CellLaws
