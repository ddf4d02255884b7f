-- Laws of what opening writes.
pub mod Opened
