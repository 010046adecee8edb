-- The definitions on which contracts rest: which texts run together, how a tree is written out, and texts that consist of
-- nothing but blanks and tokens.
pub mod Joint
pub mod Show
pub mod PlainText
-- For internal use: what has been written so far, joined with what is left.
pub mod Showing
