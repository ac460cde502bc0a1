-- What the code that judges an entry has in hand, and laws of it.
pub mod EntryMemory
pub mod EmptyBelow
pub mod LiveLaws
pub mod ComparedLaws
