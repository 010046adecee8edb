-- Lemmas of form_laws. A rule with all forms has the properties of the original rule.
pub mod ReadyLemmas
