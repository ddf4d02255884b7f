-- Laws of what an offer writes.
pub mod Offered
