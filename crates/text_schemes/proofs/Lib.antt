-- The laws that the proofs of the crate text_schemes cite.
pub mod EntryTextLaws
pub mod EntryItemLaws
