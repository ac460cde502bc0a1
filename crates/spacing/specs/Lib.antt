-- The definitions of the crate spacing, and laws of them.
pub mod Following
pub mod SpacingOrder
pub mod LexLaws
pub mod Flagged
pub mod FlaggedLaws
pub mod Rank
pub mod Sizes
pub mod Pascal
pub mod RankLaws
pub mod PascalLaws
pub mod TotalLaws
