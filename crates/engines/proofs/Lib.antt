-- Laws of the two engines.
pub mod Same
