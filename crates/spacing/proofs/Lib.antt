-- The laws that the proofs of the crate spacing cite.
pub mod SpacingMemory
pub mod SpacingCount
pub mod RankWalkLaws
