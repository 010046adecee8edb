-- Lemmas of reading_laws: pieces by their texts and ids, tokens that rows accept, what follows a Stray, where items begin,
-- tokens of items.
pub mod OnePieces
pub mod Known
pub mod Behind
pub mod Begins
pub mod Tokens
