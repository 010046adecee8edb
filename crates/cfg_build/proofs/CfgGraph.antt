-- Lemmas of cfg_graph.
pub mod LinkLemmas
pub mod SeatLemmas
pub mod StepLemmas
pub mod LabelLemmas
pub mod ValueLemmas
pub mod PartLemmas
pub mod Crossing
