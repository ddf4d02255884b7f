-- Numbers and lines as bytes, and what a function that writes them leaves.
pub mod Digits
pub mod Steps
