-- What the writing of a level is asked and says.
pub mod Steps
