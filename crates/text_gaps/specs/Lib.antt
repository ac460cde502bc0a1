-- The definitions of the crate text_gaps.
pub mod GapMemory
pub mod GapMemoryLaws
pub mod PartReading
pub mod GapReading
