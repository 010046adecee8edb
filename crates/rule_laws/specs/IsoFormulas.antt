-- Definitions of iso_formulas.
-- Formulas whose patterns have all forms.
pub mod Formulas
