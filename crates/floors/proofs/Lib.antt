-- Laws of the backup inequalities of vectors.
pub mod Floors
