-- A list of offers in slices.
pub mod Replay
