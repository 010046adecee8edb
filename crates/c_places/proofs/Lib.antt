mod StartLemmas
mod WithinLemmas
pub mod Examples
