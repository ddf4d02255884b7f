-- Laws of what is written.
pub mod Lines
pub mod Sizes
pub mod Prelude
