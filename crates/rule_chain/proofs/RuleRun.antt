-- Lemmas of rule_run.
pub mod Examples
pub mod HadLemmas
pub mod OutcomeLemmas
