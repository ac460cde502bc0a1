-- The laws that the proofs of the crate crowding cite.
pub mod EndLaws
pub mod OverLaws
pub mod PatternLaws
