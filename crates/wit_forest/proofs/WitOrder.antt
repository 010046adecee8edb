-- Lemmas of wit_order.
pub mod Induct
pub mod WitnessLemmas
pub mod StepLemmas
pub mod OrderLaws
pub mod SameLaws
pub mod RiseLemmas
pub mod ForestLaws
pub mod SizeLemmas
