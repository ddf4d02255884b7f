-- Headers and start numbers.
pub mod Headers
pub mod Steps
