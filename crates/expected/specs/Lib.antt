-- The reward expected of each state and action.
pub mod Expected
pub mod Steps
