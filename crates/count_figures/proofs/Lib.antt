-- The laws that the proofs of the crate count_figures use.
pub mod AddLaws
pub mod CaseLaws
pub mod FigureContentLaws
pub mod FigureSolutionLaws
