-- Lemmas of file_witnesses.
pub mod FoundLemmas
pub mod LackLemmas
pub mod AddLemmas
pub mod RequiredLemmas
pub mod ChosenLemmas
pub mod EachLemmas
pub mod ItemLemmas
pub mod KeptLemmas
pub mod Crossing
