-- The laws that the proofs of the crate text_gaps cite.
pub mod GapNumberLaws
pub mod GapTextLaws
