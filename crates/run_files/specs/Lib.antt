-- What the contracts depend on, in reading order: the acts that result from a text, acts that are done or broken off, and how
-- the treatment of a text ends.
pub mod Treatment
pub mod Does
pub mod Cuts
-- For internal use: what the rules of a patch make of the bytes of a file, and what is printed of it.
pub mod Applies
pub mod Shows
-- What run_lines defines.
pub mod RunLines
-- What run_stages defines.
pub mod RunStages
