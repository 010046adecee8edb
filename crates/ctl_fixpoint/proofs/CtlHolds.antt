-- Lemmas of ctl_holds.
pub mod TestLemmas
pub mod GraphLemmas
pub mod RoundLemmas
pub mod WalkLemmas
pub mod AtomLemmas
pub mod HoldLemmas
pub mod BoundLemmas
pub mod StandLemmas
pub mod PartLemmas
pub mod Examples
