-- What one read comes to, and the laws of it.
pub mod Reads
pub mod ReadLaws
