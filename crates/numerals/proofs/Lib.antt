-- Laws for this crate's proofs and those above it.
pub mod Laws
pub mod Examples
pub mod Before
pub mod Worth
pub mod Sizes
pub mod Typed
pub mod Prelude
