-- What follows the counts.
pub mod Body
pub mod Steps
