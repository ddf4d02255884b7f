-- Rows and entries to cells.
pub mod Entries
pub mod Steps
