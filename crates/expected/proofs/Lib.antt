-- Laws of expected rewards.
pub mod Expected
pub mod Prelude
