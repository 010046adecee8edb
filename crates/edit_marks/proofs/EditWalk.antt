-- Lemmas of edit_walk.
-- Lemmas: lists, tables of numbers, the tokens of a text, lists of edits that grow, patterns of bodies.
pub mod ListLemmas
pub mod NumberLemmas
pub mod TokenLemmas
pub mod GrowingLemmas
pub mod TouchLemmas
pub mod WalkContextLemmas
pub mod OrderLemmas
pub mod FitLemmas
pub mod PlainLemmas
pub mod OneList
pub mod Examples
