pub mod Small
pub mod Alike
