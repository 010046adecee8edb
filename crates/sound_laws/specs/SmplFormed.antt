-- Definitions of smpl_formed. What public contracts rest on: bodies whose tokens are numbered, and patterns that contain
-- their sure variables.
pub mod Bodies
-- Internal: the shape of the trees that rows build.
pub mod Shapes
