-- Laws of plans and levels: what vectors and ceilings say of all plans, what agreement keeps, what the builder makes, how drops are found fast, what the
-- informed rows say, and what new prices leave certified.
pub mod Certified
pub mod Floor
pub mod Ceiling
pub mod Bracket
pub mod Agreement
pub mod Built
pub mod Rebuilt
pub mod Drops
pub mod Ticks
pub mod Multiples
pub mod Intervals
pub mod Rows
pub mod Prices
