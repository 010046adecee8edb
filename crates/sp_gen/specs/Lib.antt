-- What the contract depends on: the text that is generated from a seed.
pub mod Generated
