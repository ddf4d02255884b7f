-- What a statement does to a table.
pub mod Drafts
