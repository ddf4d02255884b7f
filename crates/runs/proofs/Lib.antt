-- Laws of what the calls answer, and demand 3.
pub mod Judged
pub mod Dough
pub mod Masked
pub mod Vectors
pub mod Multiples
pub mod Prices
pub mod Repriced
pub mod Reached
pub mod Demand3
pub mod Ticks
