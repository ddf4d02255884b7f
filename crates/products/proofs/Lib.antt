-- Laws for this crate's proofs and those above it.
pub mod Weighed
pub mod Places
pub mod Found
