-- What the test of masks is handed.
pub mod Steps
