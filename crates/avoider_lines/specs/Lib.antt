-- The definitions and laws of the crate avoider_lines.
pub mod TwoLines
pub mod TwoLineLaws
pub mod LineTests
pub mod LineTestLaws
pub mod LineText
pub mod LineTextLaws
pub mod Followed
pub mod FollowedLaws
