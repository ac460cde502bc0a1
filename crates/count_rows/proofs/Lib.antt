-- The laws that the proofs of the crate count_rows use.
pub mod RowLaws
