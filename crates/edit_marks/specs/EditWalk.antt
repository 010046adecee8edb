-- Definitions of edit_walk.
-- The modules that contracts rest on, in reading order: the touches of witnesses, numbers of keys, what a touch names, the
-- edits, and what the text requires of them.
pub mod Touches
pub mod Keys
pub mod Nodes
pub mod Named
pub mod Edited
pub mod Fit
-- For internal use: lists of edits that grow, tables of numbers, and the context of the walk.
pub mod Growing
pub mod Numbered
pub mod WalkContexts
