pub mod SetLemmas
mod IndexLemmas
pub mod MapLemmas
pub mod SureLemmas
pub mod VarPlaces
