-- The definitions on which public contracts rest, in reading order.

pub mod Limits
pub mod Texts
pub mod Tokens
pub mod Words
pub mod Look
pub mod Kinds
pub mod Forks
pub mod Labels
pub mod Rows
pub mod Branches
pub mod Derives
pub mod Trees
pub mod Depth
-- What the law on types rests on in addition.

pub mod Letter
-- What a reader that builds no trees keeps of them.

pub mod Facts
-- How the rows are read.

pub mod Seen
pub mod Spells
pub mod Choice
pub mod Growth
pub mod Scan
pub mod Range
