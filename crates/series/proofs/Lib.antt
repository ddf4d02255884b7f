-- Laws of offers one after the other.
pub mod Series
