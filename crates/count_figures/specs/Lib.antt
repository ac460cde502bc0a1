-- Counting by inversions: the figures of cells, and one step.
pub mod Figures
pub mod Adding
pub mod Steps
pub mod FigureSizeLaws
