-- Definitions of token_laws. What the laws rest on: states in which ids differ, and values consist of tokens of C.
pub mod States
