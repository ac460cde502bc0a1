-- The definitions, and the laws of a page, of the crate text_page.
pub mod Page
pub mod Decimal
pub mod Numeral
pub mod PageLaws
