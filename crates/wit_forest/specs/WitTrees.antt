-- Definitions of wit_trees.
-- The modules that public contracts rest on, in reading order.
-- unions of forests
pub mod Unions
-- which atoms are touched
pub mod Marks
-- the forest of a formula at a node under an environment
pub mod Forest
-- the same at the nodes of a graph
pub mod Graphs
-- environments that give each variable the same value
pub mod Alike
-- the witnesses of a rule in one item
pub mod Rules
