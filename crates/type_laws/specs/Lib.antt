-- What the laws are about: the ids in an item, the names that are local at a place, and the expressions that have a type there.
pub mod Places
pub mod Typed
