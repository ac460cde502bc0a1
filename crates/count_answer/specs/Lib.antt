-- What counting promises, and the laws of it.
pub mod Counting
pub mod Measuring
