-- Which cell of the table holds what, the sheet of a scheme, and what a count reads from it.
pub mod Layout
pub mod Plan
pub mod LayoutLaws
pub mod SingleLaws
pub mod ApartLaws
pub mod Cards
pub mod SheetSizes
pub mod SheetForm
pub mod SheetRows
