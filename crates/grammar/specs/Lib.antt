-- Words to numbers, keys and indices.
pub mod Grammar
pub mod Steps
