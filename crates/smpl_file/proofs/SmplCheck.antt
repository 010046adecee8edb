-- Lemmas of smpl_check.
pub mod KnownLemmas
pub mod FirstLemmas
pub mod Examples
