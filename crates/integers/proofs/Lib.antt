-- Laws of the definitions in specs/, for this crate's proofs and those above it.
pub mod Kit
pub mod Parts
pub mod Order
pub mod Sums
pub mod Sizes
pub mod Rounding
pub mod Searches
pub mod Lists
pub mod Words
pub mod Terms
pub mod Quotients
pub mod Prelude
