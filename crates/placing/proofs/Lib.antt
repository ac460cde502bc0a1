-- The laws that the proofs of the crate cite.
pub mod PlacingState
pub mod LookupLaws
pub mod CandidateMade
