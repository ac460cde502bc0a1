-- What containment answers, and the laws of it.
pub mod SetCopies
pub mod Containment
pub mod AnswerLaws
