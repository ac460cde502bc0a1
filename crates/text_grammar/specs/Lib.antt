-- The definitions and laws of the crate text_grammar.
pub mod Spelling
pub mod Tokens
pub mod TokenLaws
pub mod Grammar
pub mod GrammarLaws
pub mod SpellingLaws
pub mod Cursor
pub mod Kinds
pub mod KindLaws
pub mod ItemReading
