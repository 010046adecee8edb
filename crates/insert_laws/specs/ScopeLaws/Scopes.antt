-- Formulas in which the variables that an atom uses are quantified above it.
use Rattle.std.specs.Prelude.{◌≡◌, Bool, true, not, ◌||◌}
use Rattle.smpl_terms.specs.declared.var.Var.{Var}
use Rattle.smpl_terms.specs.Vars.{same_var}
use Rattle.smpl_patch.specs.declared.pattern.Pattern.{Pattern}
use Rattle.smpl_patch.specs.declared.rule.Rule.{Rule}
use Rattle.ctl_formula.specs.Plain.{Plain, True, Atom, EarlyExit, BraceOpen, BraceClose, Inside, Outside, Not, And, Or, AX, EX, AU}
use Rattle.ctl_formula.specs.Plain.{EU, After, InBranch, Exists}
use Rattle.pattern_vars.specs.Reads.{has}
use Rattle.ctl_translate.specs.Rules.{locals}

module _ (used : Pattern → Var → Bool) where
  -- At each atom of the formula that isn't under Not, each variable that the pattern uses is quantified above it, or
  -- passes. Atoms under Not are never touched.
  abbrev pub Covers : (Var → Bool) → Plain → Type 0
  Covers test True = Unit {0}
  Covers test (Atom p) = (x : Var) → used p x ≡ true → test x ≡ true
  Covers test EarlyExit = Unit {0}
  Covers test (BraceOpen p b) = (x : Var) → used p x ≡ true → test x ≡ true
  Covers test (BraceClose p b) = (x : Var) → used p x ≡ true → test x ≡ true
  Covers test (Inside b) = Unit {0}
  Covers test (Outside b) = Unit {0}
  Covers test (Not f) = Unit {0}
  Covers test (And f h) = Covers test f × Covers test h
  Covers test (Or f h) = Covers test f × Covers test h
  Covers test (AX f) = Covers test f
  Covers test (EX f) = Covers test f
  Covers test (AU f h) = Covers test f × Covers test h
  Covers test (EU f h) = Covers test f × Covers test h
  Covers test (After f) = Covers test f
  Covers test (InBranch i f) = Covers test f
  Covers test (Exists y f) = Covers (λ x. test x || same_var y x) f

-- the variable is exported or inherited, or none of the rule's
abbrev pub is_free : Rule → Var → Bool
is_free rule x = not (has (locals rule) x)
