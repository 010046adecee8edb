-- Definitions of smpl_elem.
-- What public contracts rest on, in reading order: what a tree is as a part of a body, and its elements.
pub mod Forms
pub mod Elements
