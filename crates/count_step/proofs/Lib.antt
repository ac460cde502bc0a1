-- The laws that the proofs of the crate count_step use.
pub mod SumLaws
pub mod FillLaws
