-- Lemmas of plus_laws: gaps without newlines, tokens of plus code, rules.
pub mod GapLemmas
pub mod TokenLemmas
pub mod RuleLemmas
