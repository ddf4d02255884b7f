-- Laws of what an acceptance leaves.
pub mod Raised
