-- Lemmas of rule_edits.
pub mod ClashLemmas
pub mod IdLemmas
pub mod NodeLemmas
pub mod LeaveLemmas
pub mod TokenLemmas
pub mod TreeLemmas
pub mod TidyLemmas
pub mod BodyLemmas
pub mod TidyIdLemmas
