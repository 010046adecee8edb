pub mod DeclarationLemmas
pub mod FoldLemmas
pub mod PartLemmas
pub mod LocalLemmas
pub mod NumberLemmas
pub mod EntryLemmas
pub mod FieldLemmas
mod Examples
