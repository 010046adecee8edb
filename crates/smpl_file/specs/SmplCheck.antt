-- Definitions of smpl_check.
-- What public contracts rest on: the faults that are looked for once rules have formulas, and their order.
pub mod Checks
-- For internal use: the same faults, by what `formula_of` returns.
pub mod Known
