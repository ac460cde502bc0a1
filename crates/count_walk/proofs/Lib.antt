-- What filling the cells in their order leaves: laws that the crates above cite.
pub mod FeedLaws
pub mod CellLaws
pub mod WalkLaws
pub mod SolutionLaws
pub mod ReadLaws
pub mod NumberLaws
