-- Definitions of output_laws.
-- What the laws rest on: ids that differ, values of tokens of C.
pub mod Differ
pub mod Values
