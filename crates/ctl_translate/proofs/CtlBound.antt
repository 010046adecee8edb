-- Lemmas of ctl_bound.
pub mod BitLemmas
pub mod StepLemmas
pub mod MaskLemmas
pub mod NamingLemmas
pub mod MarkLemmas
pub mod GroupLemmas
pub mod Examples
