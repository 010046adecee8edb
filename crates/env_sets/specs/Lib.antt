-- Definitions that public contracts use, in reading order: bounds, values in order, sets, blocks, sets by node, laws.
pub mod Bounds
pub mod Rising
pub mod Runs
pub mod Sets
pub mod Blocks
pub mod States
pub mod Laws
-- For internal use: how a set splits on the values of a variable.
pub mod Splits
-- For internal use: entries in the order of the values that they fix.
pub mod Ascending
