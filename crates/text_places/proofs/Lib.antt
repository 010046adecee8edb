pub mod PlaceLemmas
pub mod Examples
