-- The laws that the proofs of the crate verdict use.
pub mod WitnessLaws
pub mod SameVerdictLaws
