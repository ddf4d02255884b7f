-- Laws for this crate's proofs and those above it.
pub mod Keys
pub mod Laws
pub mod Prelude
