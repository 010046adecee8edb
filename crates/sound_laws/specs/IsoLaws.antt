-- Definitions of iso_laws. Isomorphisms under which sound patches remain sound.
pub mod Fine
