-- Laws about the definitions of this crate.
pub mod All
pub mod Files
pub mod Examples
pub mod Refused
