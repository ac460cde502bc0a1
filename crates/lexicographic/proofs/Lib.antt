-- The laws of the crate lexicographic.
pub mod AnswerLaws
pub mod SetLaws
pub mod TestLaws
