-- The laws of numbers in base ten.
pub mod DecimalLaws
pub mod NumeralLaws
