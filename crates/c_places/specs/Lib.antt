-- What contracts depend on: where the tokens of a text begin.
pub mod Starts
