-- Plan graphs: what one's nodes are worth, its storage, and the steps on the way.
pub mod Limits
pub mod Graph
pub mod Storage
pub mod Steps
