-- The call that adopts a level from a solver's files.
pub mod Adopt
pub mod Claim
