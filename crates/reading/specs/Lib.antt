-- Reading a model file into lent slices.
pub mod Reading
