-- The patterns of formulas.
pub mod FormulaLemmas
pub mod RuleLemmas
-- What holds of each rule of a patch: exports, plus code, formulas, and all together.
pub mod TestLemmas
pub mod ApartLemmas
pub mod EvenLemmas
pub mod RightLemmas
pub mod BindLemmas
pub mod PreparedLemmas
pub mod ReadyLemmas
pub mod IsoFormulas
pub mod ChainLaws
pub mod FormLaws
