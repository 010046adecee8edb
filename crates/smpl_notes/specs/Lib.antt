-- What contracts depend on, in reading order: the notes on a patch, kind by kind, what they say, and which are told.
pub mod Notes
pub mod Tokens
pub mod Minus
pub mod Functions
pub mod Names
pub mod NullTests
pub mod Types
pub mod KindWords
pub mod Sentences
pub mod Told
