-- Laws of offers packed in slices.
pub mod Blocks
