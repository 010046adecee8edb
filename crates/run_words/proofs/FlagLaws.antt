-- Lemmas of flag_laws.
-- Lemmas: what words with other flags ask for.
pub mod FlagLemmas
