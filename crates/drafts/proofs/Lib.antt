-- Laws about the definitions of this crate.
pub mod Marks
pub mod Meaning
pub mod Prelude
