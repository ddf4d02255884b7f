-- Laws of an offer's tests as the code goes through them.
pub mod Offers
pub mod Shapes
