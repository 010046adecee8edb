-- Lemmas of iso_forms.
pub mod ListLemmas
pub mod SpelledLemmas
pub mod SeenLemmas
pub mod MatchLemmas
pub mod ListedLemmas
pub mod ArrowLemmas
pub mod ChoiceLemmas
pub mod FormLemmas
pub mod FirstLemmas
pub mod LabelLemmas
pub mod Examples
