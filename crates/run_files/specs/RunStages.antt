-- Definitions of run_stages.
-- What the contract of a run depends on, in reading order: what it promises, the acts that lead from one stage to another, the
-- stages, and why the acts of a whole run are what they are, file by file, with the cause of each status.
pub mod Promise
pub mod Paths
pub mod Stages
pub mod Reasons
pub mod Causes
-- For internal use: how a part of a run ends.
pub mod Ends
