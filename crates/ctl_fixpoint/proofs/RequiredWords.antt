-- Lemmas of required_words.
pub mod WordLemmas
pub mod FitWords
pub mod ListWords
pub mod HeldWords
pub mod MatchWords
pub mod GraphWords
pub mod HoldWords
pub mod StandLemmas
pub mod NeedLemmas
pub mod FormGroupLemmas
pub mod Examples
