-- What the search for a copy shows, and the laws of it.
pub mod Copy
pub mod ShownLaws
