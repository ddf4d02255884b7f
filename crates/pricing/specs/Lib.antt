-- What the moving of numbers is asked and says.
pub mod Steps
