-- The definitions of iso_forms.
-- What the public contracts rest on, in reading order: what a variable of a side may stand for, when a tree matches a
-- side, the tree that another side makes, where a tree may be replaced and by what, and the forms of a tree.
pub mod Kinds
pub mod Matching
pub mod Making
pub mod Replacing
pub mod Forms
-- Internal: how a tree is spelled, and what the parts of the expander return.
pub mod Spelled
pub mod Stepped
