-- The cells of the table in the order in which they are filled, and what filling them leaves.
pub mod Content
pub mod Cells
pub mod Walk
pub mod Feeds
pub mod Values
