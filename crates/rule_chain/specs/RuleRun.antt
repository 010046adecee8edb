-- Definitions of rule_run.
-- What the contract of `run_rule` depends on, in reading order; rule_matches and rule_edits come first.
pub mod Notes
pub mod Needed
pub mod States
pub mod OneRule
pub mod Tidied
pub mod Outcomes
