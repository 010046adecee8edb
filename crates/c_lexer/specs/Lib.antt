-- What contracts rest on: the kinds of texts, what it is to be the first piece, and the pieces of a text; their ids,
-- and which texts run together.
pub mod Words
pub mod Kinds
pub mod First
pub mod Pieces
pub mod Lexes
pub mod Ids
pub mod Parts
pub mod Beside
pub mod Loose
-- The same kinds, each by itself in C11's terms, with which the kinds above agree.
pub mod Blanks
pub mod Comments
pub mod Names
pub mod Numbers
pub mod Literals
pub mod Puncts
pub mod Strays
pub mod Lines
-- For internal use: pieces as they are kept, and the search for the longest.
pub mod Spans
pub mod Longest
pub mod Runs
