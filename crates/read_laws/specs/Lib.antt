-- What read_ends and typed_once define.
pub mod ReadEnds
pub mod TypedOnce
