-- Laws of the sawtooth ceiling over storage, for this crate's proofs and those above it.
pub mod Laws
pub mod Joined
pub mod Prelude
