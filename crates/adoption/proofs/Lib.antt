-- Laws of the call that adopts a level from a solver's files: what it makes is accepted.
pub mod Accepted
pub mod Examples
pub mod Adopting
