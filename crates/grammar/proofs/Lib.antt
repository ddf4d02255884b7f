-- Laws about the definitions of this crate.
pub mod Laws
pub mod Gives
pub mod Named
pub mod Alike
