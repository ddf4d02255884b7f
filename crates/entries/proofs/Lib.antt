-- Laws for this crate's proofs and those above it.
pub mod Laws
