-- Laws for this crate's proofs and those above it.
pub mod Laws
pub mod Orders
pub mod Over
pub mod Points
pub mod Prelude
