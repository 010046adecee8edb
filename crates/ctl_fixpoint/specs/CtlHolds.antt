-- Definitions of ctl_holds.
-- The modules that public contracts rest on, in reading order.
-- the values that a variable can have in a graph
pub mod Values
-- walks from a node, and what an until requires of them
pub mod Untils
-- where a formula holds
pub mod Holding
-- the parts of a formula, and its patterns
pub mod Parts
-- which variables occur free in a formula
pub mod Free
-- the same as a computation: rounds in place of walks
pub mod Rounds
-- the law on bound variables
pub mod BoundLaw
