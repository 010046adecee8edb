-- What the laws rest on: plus code and values that consist of tokens of C.
pub mod Sound
-- What output_laws defines.
pub mod OutputLaws
-- What reading_laws defines.
pub mod ReadingLaws
-- What value_laws defines.
pub mod ValueLaws
-- What plus_laws defines.
pub mod PlusLaws
-- What token_laws defines.
pub mod TokenLaws
-- What again_laws defines.
pub mod AgainLaws
-- What chain_total defines.
pub mod ChainTotal
