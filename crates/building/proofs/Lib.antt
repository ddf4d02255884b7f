-- Laws of what building tests and writes.
pub mod Buildable
