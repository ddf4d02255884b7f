-- What tables that are accepted give to their list, and what it promises.
pub mod Fitting
mod Offers
pub mod Engines
