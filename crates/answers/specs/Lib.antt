-- What the exported calls share.
pub mod Calls
