-- Lemmas of iso_formulas.
-- Patterns and where variables are quantified, the table, what formulas bind, rules.
pub mod AnswerLemmas
pub mod PlacingLemmas
pub mod ImageLemmas
pub mod TableLemmas
pub mod BoundLemmas
pub mod RuleLemmas
