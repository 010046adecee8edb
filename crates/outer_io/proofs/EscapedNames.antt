-- Lemmas of escaped_names.
pub mod Examples
pub mod ReadLemmas
