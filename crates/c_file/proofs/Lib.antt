pub mod FitLemmas
pub mod CoreLemmas
pub mod ReadLemmas
pub mod OnceLemmas
pub mod ItemGraphs
