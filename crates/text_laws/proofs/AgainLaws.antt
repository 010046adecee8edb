-- Lemmas of again_laws: the tokens of a text that is cut again, and states that are sound.
pub mod TokenLemmas
pub mod BeforeLemmas
