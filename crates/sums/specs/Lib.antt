-- Partial sums over storage.
pub mod Steps
