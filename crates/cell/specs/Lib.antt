-- The definitions of the crate cell, and then its laws.
pub mod Basis
pub mod Cell
pub mod Claim
pub mod Binomial
pub mod Built
pub mod Lost
pub mod Candidate
pub mod SublistLaws
pub mod Child
