-- What is looked up in the search.
pub mod Lookup
pub mod Tabled
