-- Lemmas of smpl_when.
pub mod Changing
pub mod Once
pub mod Says
pub mod States
pub mod WordRuns
pub mod CodeLines
pub mod Machine
pub mod Outside
pub mod Examples
