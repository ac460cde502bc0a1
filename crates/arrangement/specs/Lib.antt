-- The definitions of the crate arrangement, and then its laws.
pub mod Budget
pub mod Exchange
pub mod Said
pub mod Searching
pub mod OccurrenceLaws
pub mod ExchangeLaws
pub mod UnusedLaws
pub mod SearchingLaws
