-- Lemmas of chain_laws. The properties of each rule imply what is known of a rule that is run.
pub mod RequiredLemmas
