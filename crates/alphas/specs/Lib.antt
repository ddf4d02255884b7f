-- A vector and a node of a solver's files.
pub mod Alphas
pub mod Steps
