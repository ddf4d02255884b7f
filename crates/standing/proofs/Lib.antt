-- Laws of the tests as the code goes through them.
pub mod Passed
pub mod Stages
