-- Levels in storage, and what an offered or standing level is refused for.
pub mod Storage
pub mod Judged
