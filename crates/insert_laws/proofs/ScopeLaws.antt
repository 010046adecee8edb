-- Lemmas of scope_laws: the variables of blocks, and those of atoms.
pub mod BlockLemmas
pub mod CoverLemmas
