-- The definitions and laws of the plain evaluation.
pub mod Pieces
pub mod PieceLaws
pub mod MergingLaws
pub mod Reading
pub mod ReadingLaws
