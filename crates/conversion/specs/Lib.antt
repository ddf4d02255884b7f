-- A conversion, and what is claimed of it.
pub mod Convert
pub mod Claim
pub mod Steps
