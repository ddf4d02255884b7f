-- Offers packed in slices.
pub mod Blocks
pub mod Steps
