pub mod LineLemmas
pub mod ClearLemmas
