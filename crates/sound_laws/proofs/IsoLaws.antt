-- Lemmas of iso_laws.
pub mod GoodLemmas
pub mod FittingLemmas
pub mod MakingLemmas
pub mod FormLaws
pub mod PatternLaws
pub mod PatchLaws
