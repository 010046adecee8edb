-- Lemmas of token_laws: pieces with other ids, states.
pub mod PieceLemmas
pub mod StateLemmas
