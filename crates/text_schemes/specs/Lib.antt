-- The definitions and laws of the crate text_schemes.
pub mod SchemeLoaded
pub mod SchemeReading
pub mod EntryReading
pub mod RuleLoading
pub mod SchemeLoading
