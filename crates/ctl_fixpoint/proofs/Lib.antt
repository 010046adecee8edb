pub mod BlockLemmas
pub mod RowLemmas
pub mod StepLemmas
pub mod SweepLemmas
pub mod CtlHolds
pub mod RequiredWords
