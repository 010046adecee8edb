-- What the public contracts rest on, in reading order.
-- the formula of a rule, and why it has no usable one
pub mod Rules
-- what `formula_of` returns
pub mod Answers
-- Internal: lower bounds for the size of a formula, from the body alone.
pub mod Least
-- lower bounds for its number of levels, from the body alone
pub mod Deep
-- The definitions of ctl_bound.
pub mod CtlBound
