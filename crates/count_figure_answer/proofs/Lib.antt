-- The laws that the crate counting cites.
pub mod FigureMeasureLaws
pub mod FigureCountLaws
