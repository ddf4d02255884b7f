-- Laws of a list of offers.
pub mod Runs
