-- Definitions of rule_matches.
-- What the contract of `match_rule` depends on.
pub mod Matching
