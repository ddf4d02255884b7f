-- Laws of the totals.
pub mod Bounds
pub mod Prelude
