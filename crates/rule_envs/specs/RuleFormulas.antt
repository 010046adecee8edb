-- Definitions of rule_formulas.
pub mod Prepared
