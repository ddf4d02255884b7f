-- Laws of the backup inequalities of the ceiling.
pub mod Covering
pub mod Prelude
