-- Lemmas of read_ends: cut texts, the text and the heads of a patch, its rules, isomorphisms, forms.
pub mod PieceLemmas
pub mod DeclLemmas
pub mod TextLemmas
pub mod RuleLemmas
pub mod IsoLemmas
pub mod FormLemmas
