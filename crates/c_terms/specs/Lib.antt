-- What public contracts rest on, in reading order: trees, when two are the same, their order, names.

pub mod Trees
pub mod Numbers
pub mod Bare
pub mod Same
pub mod Order
pub mod Names
-- What the crates above share: what a label is, the places in a tree, the members of a list.

pub mod Shapes
pub mod Places
pub mod Lists
pub mod Constants
-- For internal use: how a text keeps its bytes.

pub mod Kept
