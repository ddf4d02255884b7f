-- Laws of the builder's level.
pub mod Levels
pub mod Prelude
