-- Definitions of unread_laws.
-- What the law depends on: words that differ only in `--unread`.
pub mod Choices
