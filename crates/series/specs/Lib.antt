-- Offers one after the other.
pub mod Series
