-- The laws that the proofs of the tests cite.
pub mod PatternLaws
