pub mod ExportLemmas
pub mod RuleLemmas
pub mod FaultLemmas
pub mod OnceLemmas
pub mod SmplCheck
