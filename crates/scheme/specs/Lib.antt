-- The definitions of the crate scheme, and laws of the tests that crates above cite.
pub mod WellFormed
pub mod TestOrder
pub mod Sized
pub mod Links
pub mod TestLaws
pub mod PositionLaws
pub mod DeletedLaws
pub mod FindingLaws
pub mod NumberLaws
pub mod Proper
pub mod ProperLaws
pub mod LossLaws
pub mod EntryMemoryLaws
pub mod SetLaws
