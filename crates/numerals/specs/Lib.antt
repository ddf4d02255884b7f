-- Words to numbers.
pub mod Numeral
pub mod Before
pub mod Worth
pub mod Typed
pub mod Steps
