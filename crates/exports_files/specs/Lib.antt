-- What the calls on files answer.
pub mod Calls
