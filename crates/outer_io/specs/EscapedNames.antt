-- Definitions of escaped_names.
-- What contracts rest on: how a line shows a name.
pub mod Escapes
pub mod Reads
