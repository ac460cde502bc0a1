-- The nearest earlier place of an item that is the same, and the laws of it.
pub mod Twin
pub mod TwinLaws
