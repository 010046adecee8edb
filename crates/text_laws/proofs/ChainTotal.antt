-- Lemmas of chain_total: readings, lists in order, edits of touches, the first clash, the rules.
pub mod ReadLemmas
pub mod NumberLemmas
pub mod SpotLemmas
pub mod EditLemmas
pub mod LeastLemmas
pub mod RunLemmas
