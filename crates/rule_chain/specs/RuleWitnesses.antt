-- Definitions of rule_witnesses.
-- What the public contracts depend on, in reading order.
-- witnesses without the ids of their terms' tokens
pub mod Bare
-- what a set leaves variables
pub mod Choices
-- the size of what is found in one item, and when a formula binds exported variables
pub mod Jobs
-- the sets of a formula in a graph, and the nodes at which it can hold
pub mod Matched
-- For internal use.
-- sets in which some variables are left open
pub mod Opened
-- environments that are given values one variable after another
pub mod Extended
