-- Lemmas of aligned_laws: the tokens of alignments, the trees of nodes, the tokens of forms.
pub mod PairLemmas
pub mod SpotLemmas
pub mod NodeLemmas
pub mod PlainLemmas
pub mod FormLemmas
