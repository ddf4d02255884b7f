-- Totals over storage.
pub mod Steps
