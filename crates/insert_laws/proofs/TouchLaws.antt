-- Lemmas of touch_laws: environments, choices of exported values, trees of witnesses, forests, one rule.
pub mod EnvLemmas
pub mod ChoiceLemmas
pub mod TreeLemmas
pub mod ForestLemmas
pub mod MatchingLemmas
