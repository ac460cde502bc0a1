-- The laws that the proofs of the crate judge use.
pub mod EntryWalkLaws
pub mod LossLaws
pub mod JudgeLaws
pub mod JudgementLaws
pub mod WitnessPageLaws
