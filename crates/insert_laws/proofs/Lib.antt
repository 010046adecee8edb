-- Examples, and lemmas: the variables that are metavariables of a patch, plus code with terms, the variables that a touch uses, the rules
-- of a patch, the chain.
mod Examples
pub mod KindLemmas
pub mod PlusLemmas
pub mod NamedLemmas
pub mod RuleLemmas
pub mod ChainLemmas
pub mod TermLaws
pub mod ScopeLaws
pub mod NameLaws
pub mod AlignedLaws
pub mod TouchLaws
