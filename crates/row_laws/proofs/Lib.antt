pub mod MovedLemmas
pub mod RuleLemmas
pub mod Examples
