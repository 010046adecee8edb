pub mod SureLemmas
pub mod BodyLemmas
pub mod Weights
pub mod EqualLemmas
pub mod FaultLemmas
mod Examples
pub mod NameLemmas
pub mod Crossing
