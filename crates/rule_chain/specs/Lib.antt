-- What the contract of the chain depends on, in reading order; rule_run comes first.
pub mod Chain
pub mod Passed
pub mod Results
pub mod Required
pub mod Told
-- What is known of a rule that is ready to run, and of the words that it needs, has one proof, so that a struct may keep it.
pub mod OneProof
pub mod RuleWords
-- For internal use: the rules over one reading.
pub mod Stops
-- What rule_witnesses defines.
pub mod RuleWitnesses
-- What rule_edits defines.
pub mod RuleEdits
-- What file_witnesses defines.
pub mod FileWitnesses
-- What rule_matches defines.
pub mod RuleMatches
-- What rule_run defines.
pub mod RuleRun
-- What edit_laws defines.
pub mod EditLaws
