-- What contracts depend on: the touches of a forest in preorder, and their spans of loaded tokens.
pub mod Touches
pub mod Spans
