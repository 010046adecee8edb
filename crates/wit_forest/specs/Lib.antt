-- The modules that contracts rest on.
-- lists of states, each once
pub mod States
-- what was gathered, and what is left to be explored
pub mod Gathered
-- for internal use: laws of the first
pub mod StateLaws
-- What wit_order defines.
pub mod WitOrder
-- What wit_trees defines.
pub mod WitTrees
-- What wit_steps defines.
pub mod WitSteps
-- What reach_laws defines.
pub mod ReachLaws
