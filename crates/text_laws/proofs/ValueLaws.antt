-- Lemmas of value_laws: environments, trees of witnesses, trees without ids, one rule.
pub mod EnvLemmas
pub mod ForestLemmas
pub mod BareLemmas
pub mod MatchingLemmas
