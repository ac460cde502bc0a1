-- What the table program prints, and the laws of it.
pub mod TableText
pub mod PrintLaws
