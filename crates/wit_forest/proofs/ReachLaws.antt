-- Lemmas of reach_laws.
-- Lemmas: members of lists, and walks of any length.
pub mod ReachLemmas
