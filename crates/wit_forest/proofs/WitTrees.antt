-- Lemmas of wit_trees.
pub mod UnionLemmas
pub mod RiseLemmas
pub mod MatchLemmas
pub mod AlikeLemmas
pub mod ReachLemmas
pub mod StepLemmas
pub mod Examples
