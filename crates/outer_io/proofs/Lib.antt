pub mod FileMapLemmas
mod Examples
pub mod EscapedNames
