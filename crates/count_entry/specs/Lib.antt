-- The layout of a table in memory, and what the steps of an entry leave.
pub mod Frames
