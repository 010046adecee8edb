pub mod GuardLemmas
pub mod GuardedLemmas
pub mod RuleLemmas
pub mod LeastLemmas
pub mod LeastSteps
pub mod DeepLemmas
pub mod CtlBound
