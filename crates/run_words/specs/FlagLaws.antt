-- Definitions of flag_laws.
-- What the law depends on: words that differ only in `--check` and `--quiet`.
pub mod Flags
