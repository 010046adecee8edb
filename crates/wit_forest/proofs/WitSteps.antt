-- Lemmas of wit_steps.
pub mod StepLemmas
pub mod TouchLemmas
pub mod KidLemmas
pub mod ChoiceLemmas
