-- Laws of the answers at many mixtures.
pub mod Answers
