-- A certifier that climbs, as slices.
pub mod Climb
