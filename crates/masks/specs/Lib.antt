-- Masks of vectors.
pub mod Masks
pub mod Steps
