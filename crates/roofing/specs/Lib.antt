-- Least values over storage.
pub mod Steps
