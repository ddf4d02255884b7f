-- What each call answers, and what holds after a list of offers and new prices.
pub mod State
pub mod Prices
pub mod Demand3
pub mod Ticks
pub mod Vectors
pub mod Multiples
