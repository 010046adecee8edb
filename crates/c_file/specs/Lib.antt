-- What public contracts depend on, in reading order: the limit of graphs, the tokens of an item, the names that it declares
-- as types, what it is read as, what items satisfy, and a file.

pub mod Limits
pub mod Tokens
pub mod Typedefs
pub mod Reads
pub mod Fit
pub mod File
-- What item_graphs defines.
pub mod ItemGraphs
