-- For callers: the definitions that their own clauses need.
pub mod Callers
-- For internal use: the status that a run returns, the outcome of a file's turn, and what is required of a patch that is used.
pub mod Answer
pub mod Turns
pub mod Usable
-- What run_ends defines.
pub mod RunEnds
