-- Lemmas of smpl_elem.
pub mod PartLemmas
pub mod CountLemmas
pub mod Examples
