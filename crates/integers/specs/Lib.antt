-- The definitions of this crate: arithmetic of whole numbers, searches over an index, and arrays filled up to a count.
pub mod Whole
pub mod Search
pub mod Cells
