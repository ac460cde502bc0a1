-- The laws that the proofs of the crate text_writer cite.
pub mod FitLaws
pub mod SchemeFitLaws
