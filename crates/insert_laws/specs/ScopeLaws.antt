-- Definitions of scope_laws.
-- What the laws rest on: formulas that quantify the variables of their atoms.
pub mod Scopes
