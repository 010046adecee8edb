-- Definitions of aligned_laws. What the laws rest on: tokens of the compared part of a form, and trees of heads.
pub mod Compared
