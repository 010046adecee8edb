-- Definitions of ctl_bound.
-- What the public contracts rest on, in reading order.
-- what a formula says about a variable
pub mod Binding
-- the same for 64 variables, one bit each
pub mod Bits
-- and for many variables by their numbers, 64 of them each
pub mod Saying
-- Internal: which variables a node names, as marks and as bits.
pub mod Naming
-- What a node says, given its parts.
pub mod Steps
