-- Laws of the candidates, and of the best of them.
pub mod Candidates
pub mod Actions
