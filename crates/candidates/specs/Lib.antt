-- The best action's vector over storage.
pub mod Steps
