-- Definitions of again_laws. What the laws rest on: the tokens of pieces, and the rule that the run of a patch reaches.
pub mod Tokens
pub mod Reached
