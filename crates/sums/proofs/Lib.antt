-- Laws of the partial sums.
pub mod Regroup
pub mod Prelude
