-- The cursor over the cells of the table: where it is, and where it moves.
pub mod Cursor
pub mod CursorLaws
pub mod RowLaws
