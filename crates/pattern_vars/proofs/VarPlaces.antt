-- Lemmas of var_places.
pub mod KeptLemmas
pub mod HomeLemmas
pub mod ShareLemmas
pub mod SinceLemmas
pub mod KeyLemmas
pub mod CountLemmas
pub mod ScopeLemmas
pub mod OrderedLemmas
pub mod FirstLemmas
