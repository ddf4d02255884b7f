-- Vectors as a solver's files say them.
pub mod Stated
pub mod Steps
