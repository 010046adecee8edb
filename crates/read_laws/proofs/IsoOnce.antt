-- Lemmas of iso_once.
pub mod PieceLemmas
pub mod BlockLemmas
pub mod LostLemmas
pub mod FileLemmas
pub mod BodyOnce
pub mod ExpandLemmas
