-- The definitions and laws of the crate text_patterns.
pub mod PatternMemory
pub mod PatternReading
pub mod PatternLoading
