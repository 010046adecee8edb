-- What public contracts rest on, in reading order: lines and their roles, pieces, tokens, headers and `virtual` lines, the
-- whole text.
pub mod Lines
pub mod Sections
pub mod Pieces
pub mod Tokens
pub mod Headers
pub mod Virtuals
pub mod CutLines
pub mod Texts
-- For internal use: what a line is cut into.
pub mod Cutting
