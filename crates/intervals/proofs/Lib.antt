-- Laws of totals within ranges.
pub mod Ranges
pub mod Answers
pub mod Claim
pub mod Examples
