-- Lemmas of rule_formulas.
pub mod BoundLemmas
pub mod PrepareLemmas
