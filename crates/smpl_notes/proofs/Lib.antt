mod Examples
pub mod ListLemmas
pub mod FoldLemmas
pub mod BodyLemmas
pub mod LoopLemmas
pub mod TypeLemmas
