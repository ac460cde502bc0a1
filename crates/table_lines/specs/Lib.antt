-- The definitions and laws of the crate table_lines.
pub mod Lines
pub mod Kept
pub mod KeptWalk
pub mod LineLaws
pub mod KeptLaws
pub mod LastNumberLaws
pub mod CallerLaws
pub mod ThreeLaws
