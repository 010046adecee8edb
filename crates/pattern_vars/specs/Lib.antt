-- What public contracts rest on: which variables are read from a pattern.
pub mod Reads
-- and what a map has for a variable
pub mod Keys
-- For internal use: numbers of declarations,
pub mod Index
-- and what branches have in common.
pub mod Sure
-- What var_places defines.
pub mod VarPlaces
