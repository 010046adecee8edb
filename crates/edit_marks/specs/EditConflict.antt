-- Definitions of edit_conflict.
-- The modules that contracts rest on: when edits are the same, what they do at tokens, and when two clash.
pub mod Same
pub mod Once
pub mod Marks
pub mod Clashes
-- For internal use: laws of the first.
pub mod SameLaws
pub mod Scan
