-- Laws of vectors as a solver's files say them.
pub mod Choices
pub mod Prelude
