-- Laws for this crate's proofs.
pub mod Laws
pub mod Prelude
