-- Laws of levels from a solver's files.
pub mod Vectors
pub mod Prelude
