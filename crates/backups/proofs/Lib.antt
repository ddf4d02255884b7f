-- Laws of backups at weights, and what tables and a level lend to them.
pub mod Roofs
pub mod Lent
pub mod Prelude
