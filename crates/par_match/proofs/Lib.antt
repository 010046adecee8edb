pub mod AnswerLemmas
pub mod CellLemmas
