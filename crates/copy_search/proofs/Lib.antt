-- The laws that the proof of the search cites.
pub mod Search
