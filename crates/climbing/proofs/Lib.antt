-- Laws of a certifier that climbs.
pub mod Climbing
