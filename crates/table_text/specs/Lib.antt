-- The definitions and laws of the crate table_text.
pub mod Printed
pub mod PrintedLaws
