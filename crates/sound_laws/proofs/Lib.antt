pub mod SmplLeaves
pub mod SmplFormed
pub mod SmplSound
pub mod SmplAllSound
pub mod IsoLaws
pub mod IsoWellformed
