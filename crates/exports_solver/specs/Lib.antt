-- What the call on a solver's files answers.
pub mod Calls
