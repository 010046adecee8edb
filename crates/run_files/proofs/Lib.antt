pub mod ActLemmas
pub mod ReportLemmas
pub mod TreatLemmas
pub mod RefusalLemmas
pub mod HitLemmas
pub mod WordLines
mod Examples
