-- Laws of texts that are written one behind the other.
pub mod Over
pub mod Prelude
pub mod Powers
