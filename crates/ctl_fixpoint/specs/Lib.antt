-- The modules that public contracts rest on.
-- sets by part and node, which denote where a formula holds
pub mod States
-- For internal use.
-- the looks of an atom's pattern
pub mod Looked
-- the row of one part, given the rows of its parts
pub mod Steps
-- untils by sweeps
pub mod Sweeps
-- what is known of a graph has one proof
pub mod OneProof
-- What ctl_holds defines.
pub mod CtlHolds
-- What required_words defines.
pub mod RequiredWords
