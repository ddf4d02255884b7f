-- A model file that was written, read again.
pub mod Rereading
