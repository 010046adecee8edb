-- Definitions of rule_edits.
-- What the contract of `edit` depends on, in reading order.
pub mod Nodes
pub mod Pages
pub mod Faults
pub mod Tidied
