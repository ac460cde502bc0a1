-- The laws that the proofs of the crate text_patterns cite.
pub mod FilledLaws
pub mod PatternTextLaws
