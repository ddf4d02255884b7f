-- Refusals, and the order in which they are found.
pub mod Verdicts
