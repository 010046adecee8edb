pub mod WantLemmas
pub mod MatchLemmas
pub mod GraphLemmas
pub mod ItemLemmas
pub mod Examples
