-- Definitions of tidied edits.
-- The modules that contracts rest on, in reading order: the words of a block, the brackets that it needs, its text at an anchor,
-- how deep atoms are, the line that gives the indentation, the tokens next to a block, the edit of a touch, its statement, when a
-- body goes whole, the edits of witnesses, and when two lists of them are the same.
pub mod Words
pub mod Brackets
pub mod Layout
pub mod Depths
pub mod Reach
pub mod Neighbours
pub mod Edits
pub mod Touch
pub mod Outlines
pub mod Bodies
pub mod Walk
pub mod Same
-- For internal use: the steps from word to word, and the search for the token next to a block.
pub mod WordSteps
pub mod Searches
