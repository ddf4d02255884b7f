-- Laws of a conversion.
pub mod Expecting
pub mod Converting
pub mod Claim
pub mod Examples
