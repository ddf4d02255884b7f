-- Laws of stepping rows.
pub mod Stepped
pub mod Prelude
