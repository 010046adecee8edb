-- Lemmas of smpl_leaves.
pub mod CountedLemmas
pub mod ChildLemmas
pub mod DoLemmas
pub mod BranchLemmas
pub mod TreeLemmas
pub mod SignLemmas
pub mod RowTests
pub mod LabelShapes
pub mod RowLemmas
pub mod BodyLemmas
