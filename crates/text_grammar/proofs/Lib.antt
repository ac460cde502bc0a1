-- The laws that the proofs of the crate text_grammar cite.
pub mod CursorLaws
pub mod TextItemLaws
pub mod TextRunLaws
