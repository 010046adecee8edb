-- Lemmas of smpl_formed.
pub mod RowTests
pub mod RowShapes
pub mod SequenceLemmas
pub mod KidLemmas
pub mod TreeLemmas
pub mod SureLemmas
pub mod AtomLemmas
pub mod CutLemmas
pub mod ReadLemmas
pub mod NumberLemmas
pub mod PatternLemmas
