-- What the function's proof leans on.
pub mod File
