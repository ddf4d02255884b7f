-- The rewards that a file states.
pub mod Rewards
pub mod Steps
