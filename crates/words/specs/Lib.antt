-- Bytes to classes, and a file to words.
pub mod Class
pub mod Steps
pub mod Words
