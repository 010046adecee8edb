-- Lemmas of smpl_once.
pub mod RuleLemmas
pub mod FaultLemmas
