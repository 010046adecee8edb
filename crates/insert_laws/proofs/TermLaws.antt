-- Lemmas of term_laws: forms that fit trees, and trees at nodes; atoms that match; formulas.
pub mod FitLemmas
pub mod HeldLemmas
pub mod AtomLemmas
pub mod BoundLemmas
