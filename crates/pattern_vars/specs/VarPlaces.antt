-- Definitions of var_places.
-- What public contracts rest on, in reading order.
-- where a variable of a rule is quantified
pub mod Placing
-- the places of a sequence's elements
pub mod Places
-- For internal use: where each variable of a sequence is quantified,
pub mod Homes
-- what scopes share,
pub mod Scopes
-- and the places at which a list has variables.
pub mod Ordered
