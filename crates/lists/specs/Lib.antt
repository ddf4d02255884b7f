-- What lists of transitions promise.
pub mod Engines
