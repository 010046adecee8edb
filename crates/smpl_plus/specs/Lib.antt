-- What public contracts rest on, in reading order: which tokens are outside clauses, plus code, anchors.
pub mod Outside
pub mod Blocks
pub mod Anchors
-- For internal use: what is kept while lines are processed.
pub mod SoFar
