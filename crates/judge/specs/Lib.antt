-- What judging promises, and what its code has in hand.
pub mod Judgement
pub mod SetMemory
pub mod ProperSetLaws
