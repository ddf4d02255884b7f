-- Plans and what they earn; levels, their ceilings and backups; totals, at a mixture and within ranges; the builder; new prices.
pub mod Limits
pub mod Plan
pub mod Level
pub mod Rows
pub mod Totals
pub mod Intervals
pub mod Build
pub mod Named
pub mod Prices
