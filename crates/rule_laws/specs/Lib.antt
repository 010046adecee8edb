-- What the laws rest on: what is known of a rule that is ready to run.
pub mod Ready
-- What iso_formulas defines.
pub mod IsoFormulas
-- What chain_laws defines.
pub mod ChainLaws
-- What form_laws defines.
pub mod FormLaws
