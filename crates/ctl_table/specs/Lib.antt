-- What the public contracts rest on, in reading order.
-- the numbers of a body's blocks
pub mod Blocks
-- the table from the elements of a body to formulas
pub mod Table
-- the last atoms of an element, as made dots know them; the other definitions are internal
pub mod EndAtoms
-- what the code works with and what follows a sequence, in the terms of the table; the other definitions are internal
pub mod Settings
-- Internal: a sequence, suffix by suffix.
pub mod Suffixes
-- Internal: what may follow branches, and rows of parts, one for each such thing.
pub mod Columns
-- Internal: the places of numbers in a list.
pub mod Numbers
