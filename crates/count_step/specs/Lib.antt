-- What a step of the count stores.
pub mod Feed
pub mod Step
pub mod Sums
pub mod StepLaws
pub mod Task
