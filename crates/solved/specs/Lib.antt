-- Levels from a solver's files.
pub mod Solved
pub mod Steps
