pub mod EdgeLemmas
pub mod FaultLemmas
pub mod ReadingLemmas
pub mod OnceLemmas
pub mod SpelledLemmas
pub mod BodyLemmas
pub mod DeepLemmas
pub mod NumberLemmas
mod Examples
mod WholeExamples
pub mod SmplWhen
pub mod SmplElem
