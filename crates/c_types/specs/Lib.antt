-- What public contracts depend on, in reading order: types, what the expressions of an item are found by, what is known of them.

pub mod Types
pub mod TreeKeys
pub mod Tables
