-- What the test of vectors is handed.
pub mod Steps
