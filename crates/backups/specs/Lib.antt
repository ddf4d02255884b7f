-- Backups at weights over storage.
pub mod Steps
