-- The definitions of the crate wellformed, and their laws.
pub mod EntryPass
