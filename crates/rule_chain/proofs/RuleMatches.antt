-- Lemmas of rule_matches.
pub mod MatchingLemmas
pub mod Examples
