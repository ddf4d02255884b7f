-- The model of document 01, its storage, and what its tables are refused for.
pub mod Limits
pub mod Model
pub mod Tables
pub mod Storage
pub mod Steps
pub mod Judged
