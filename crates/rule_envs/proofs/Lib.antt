pub mod BareLemmas
pub mod FileEnvLemmas
pub mod DependLemmas
pub mod ShareLemmas
mod Examples
pub mod RuleFormulas
