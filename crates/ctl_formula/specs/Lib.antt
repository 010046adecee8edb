-- What the public contracts rest on, in reading order.
-- plain formulas, how large they are, and the limits
pub mod Plain
-- which variables have a value of the graph wherever a formula holds, and wherever it doesn't
pub mod Bounds
-- tables of nodes, and the formula of each part
pub mod Tables
-- formulas of rules: guarded, and within the limits
pub mod Formulas
-- sizes and depths as a table counts them
pub mod Counted
