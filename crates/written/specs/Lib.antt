-- A model as a model file.
pub mod Text
pub mod Steps
