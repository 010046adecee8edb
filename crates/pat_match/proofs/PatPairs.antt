-- Lemmas of pat_pairs.
pub mod PairLemmas
