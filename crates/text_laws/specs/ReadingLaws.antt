-- Definitions of reading_laws. What the laws rest on: tokens of trees, and where they are.
pub mod Sound
