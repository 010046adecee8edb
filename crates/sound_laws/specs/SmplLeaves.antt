-- Definitions of smpl_leaves.
-- What the law rests on: the tokens of elements.
pub mod Leaves
-- Internal: the shape of the trees that rows build.
pub mod Shapes
