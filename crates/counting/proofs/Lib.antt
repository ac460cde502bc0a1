-- The laws that the proofs of the crate counting use.
pub mod TableLaws
pub mod FigureTableLaws
