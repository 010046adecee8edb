-- Definitions of cfg_graph.
-- What public contracts depend on, in reading order: a graph by its lists, how nodes are added to it, walks, the values of
-- a graph.

pub mod Empty
pub mod Flow
pub mod Seats
pub mod Labels
pub mod Own
pub mod Walks
pub mod Values
-- For internal use: how short lists of numbers are kept, and lists of them.

pub mod Kept
pub mod LinkRows
