-- Counting by the table.
pub mod Rows
pub mod Run
pub mod RunLaws
pub mod OverflowLaws
