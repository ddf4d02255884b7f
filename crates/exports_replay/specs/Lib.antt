-- What the call over a list of offers answers.
pub mod Calls
