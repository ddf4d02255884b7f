pub mod Opens
pub mod Alike
pub mod Refused
