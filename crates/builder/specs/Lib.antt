-- The parts of a built level over storage.
pub mod Steps
