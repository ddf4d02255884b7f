-- The whole file.
pub mod ModelFile
pub mod Before
