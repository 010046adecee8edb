-- What public contracts rest on, in reading order: which parts of a pattern are compared, what it says of variables, faults.
pub mod Held
pub mod Patterns
pub mod Wants
pub mod Faults
-- What the crates above share: bodies as plain data, and what a sound rule and a sound patch are.
pub mod Bodies
pub mod Shapes
pub mod Sound
