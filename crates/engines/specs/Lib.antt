-- Two engines of the sums over transitions.
pub mod Steps
