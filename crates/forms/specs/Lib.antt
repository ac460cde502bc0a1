-- The definitions of the crate forms, and the laws of memory that crates above cite.
pub mod SchemeList
pub mod SchemeMemory
pub mod Codes
pub mod GapForm
pub mod GapRows
pub mod SetMemory
pub mod StoredLaws
pub mod MemoryLaws
pub mod HeldLaws
pub mod GapRowLaws
pub mod ToldLaws
pub mod CodeLaws
