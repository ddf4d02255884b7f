-- Laws of new prices, as the code works them out.
pub mod Moved
pub mod Priced
