pub mod SmplOnce
pub mod IsoOnce
pub mod ReadEnds
pub mod TypedOnce
