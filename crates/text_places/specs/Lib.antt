-- What contracts depend on: the place of a byte of a text.
pub mod Places
