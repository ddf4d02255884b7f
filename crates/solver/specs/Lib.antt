-- A solver's alpha file and policy graph file.
pub mod Files
pub mod Steps
