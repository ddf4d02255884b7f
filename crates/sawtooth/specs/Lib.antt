-- The sawtooth ceiling over stored corners, points and gains.
pub mod Steps
