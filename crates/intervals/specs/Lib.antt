-- Totals of weights known within ranges.
pub mod Intervals
pub mod Claim
pub mod Steps
