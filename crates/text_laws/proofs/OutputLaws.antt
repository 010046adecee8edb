-- Lemmas of output_laws: bytes of tokens, ids that differ, tokens of subtrees, values of graphs.
pub mod Filled
pub mod DifferentIds
pub mod TreeTokens
pub mod GraphValues
