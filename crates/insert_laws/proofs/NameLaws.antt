-- Lemmas of name_laws: the tokens of declarations, their items, and the variables of rules.
pub mod WordLemmas
pub mod ItemLemmas
pub mod RuleLemmas
