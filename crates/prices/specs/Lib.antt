-- Tables that are compared.
pub mod Steps
