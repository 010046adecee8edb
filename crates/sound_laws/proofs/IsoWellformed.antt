-- Lemmas of iso_wellformed. The weight of the tokens of a file, the width of its trees, sides that cover others, isomorphisms.
pub mod WeightLemmas
pub mod WidthLemmas
pub mod CoverLemmas
pub mod FineLemmas
