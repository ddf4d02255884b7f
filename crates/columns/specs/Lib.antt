-- Transitions kept as lists.
pub mod Columns
pub mod Steps
