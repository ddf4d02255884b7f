-- Sums over a list of transitions.
pub mod Steps
