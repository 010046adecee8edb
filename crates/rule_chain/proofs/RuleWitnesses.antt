-- Lemmas of rule_witnesses.
pub mod ValueLists
pub mod BareLemmas
pub mod ChoiceLemmas
pub mod ExtendLemmas
pub mod JobLemmas
pub mod MatchLemmas
pub mod Examples
pub mod Crossing
