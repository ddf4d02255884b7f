-- Demand 3 of a built level.
pub mod Calls
