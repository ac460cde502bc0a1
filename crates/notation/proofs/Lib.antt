-- The laws that the proofs of the crate notation cite.
pub mod ReadingFaultLaws
pub mod WritingLaws
pub mod AnswerLaws
pub mod PatternAnswerLaws
pub mod SchemeAnswerLaws
pub mod PatternWritingLaws
pub mod SchemeWritingLaws
