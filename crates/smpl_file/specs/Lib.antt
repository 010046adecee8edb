-- What public contracts rest on, in reading order: what rules take from one another, and whole patches.
pub mod Exports
pub mod Patches
-- What smpl_check defines.
pub mod SmplCheck
