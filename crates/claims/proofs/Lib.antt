-- The laws that the proofs of the crate claims use.
pub mod GapClaimLaws
pub mod RuleLaws
