-- The laws that the proofs of the crate candidate cite.
pub mod HitLaws
pub mod NeedLaws
pub mod CandidateWalk
