-- What smpl_leaves defines.
pub mod SmplLeaves
-- What smpl_formed defines.
pub mod SmplFormed
-- What smpl_sound defines.
pub mod SmplSound
-- What iso_laws defines.
pub mod IsoLaws
-- What iso_wellformed defines.
pub mod IsoWellformed
