-- Statements to tables.
pub mod Statements
