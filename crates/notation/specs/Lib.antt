-- The definitions and laws of the crate notation.
pub mod Written
pub mod Answers
pub mod PatternAnswers
pub mod SchemeAnswers
