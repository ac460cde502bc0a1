-- What judging two texts promises, and the laws of it.
pub mod TextJudgement
pub mod TextVerdictLaws
pub mod TextPageLaws
