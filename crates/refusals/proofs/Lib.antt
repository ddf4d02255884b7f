-- Laws of refusals.
pub mod Refusals
