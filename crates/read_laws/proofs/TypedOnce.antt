-- Lemmas of typed_once.
pub mod KindLemmas
pub mod WordLemmas
pub mod RowLemmas
pub mod StepLemmas
pub mod SpecsLemmas
pub mod PlainLemmas
pub mod SplitLemmas
