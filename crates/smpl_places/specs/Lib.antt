-- What contracts depend on, in reading order: the byte at which a fault of a patch is, and the piece of code that isn't spelled.
pub mod FaultPlaces
pub mod Unspelled
pub mod Pieces
pub mod Signs
