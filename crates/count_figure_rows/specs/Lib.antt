-- Counting by inversions by the table.
pub mod FigureRows
pub mod FigureWalkLaws
pub mod FigureRunLaws
