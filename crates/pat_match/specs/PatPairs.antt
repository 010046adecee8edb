-- Definitions of pat_pairs.
-- Definitions that public contracts use: the tokens of a form, and what each is aligned with.
pub mod Pairs
