-- The outcome of a range of jobs.
use Rattle.std.specs.Prelude.{ℕ, IfOk, IfErr, IfSome, Option}
use Rattle.par_match.specs.declared.parts.Part.{Part}
use Rattle.par_match.specs.Answers.{AreAnswers, IsWhy}

module _ {A F : Type 0} (may_answer : ℕ → A → Type 0) (may_fail : ℕ → F → Type 0) where
  -- its answers, or the first of its faults
  pub record IsPartOf (part : Part A F) : Type 0 where
    pub answers : IfOk part.outcome (λ v. AreAnswers may_answer part.from part.to v.items)
    pub fault : IfErr part.outcome (IsWhy may_answer may_fail part.from part.to)

  abbrev pub Holds : Option (Part A F) → Type 0
  Holds cell = IfSome cell IsPartOf
