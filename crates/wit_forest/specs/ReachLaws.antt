-- Definitions of reach_laws.
-- What the law rests on: walks that reach a node.
pub mod Reaching
