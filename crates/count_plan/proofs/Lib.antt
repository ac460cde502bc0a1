-- Laws that count_rows and count_plain cite.
pub mod CardLaws
pub mod SheetLaws
pub mod SheetRowLaws
