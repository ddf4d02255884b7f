-- What the calls for totals and worths answer.
pub mod Calls
