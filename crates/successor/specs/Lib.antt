-- The definitions of the crate successor, and then its laws.
pub mod Values
pub mod StepLaws
pub mod WordLaws
pub mod FrontLaws
