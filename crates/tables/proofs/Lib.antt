-- Laws for this crate's proofs and those above it.
pub mod Orders
pub mod Fitting
pub mod Accepted
pub mod Prelude
