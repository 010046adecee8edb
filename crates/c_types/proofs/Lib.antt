pub mod JoinLemmas
pub mod TypeLemmas
pub mod KeyLemmas
pub mod TableLemmas
pub mod MapsCrossing
pub mod Crossing
mod Examples
