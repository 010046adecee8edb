pub mod BreaksLemmas
pub mod Standing
pub mod Examples
pub mod PlacesLemmas
