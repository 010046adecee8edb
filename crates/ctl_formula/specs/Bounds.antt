-- Which variables have a value of the graph wherever a formula holds, and wherever it doesn't.
use Rattle.std.specs.Prelude.{Bool, true, false, not, ◌&&◌, ◌||◌}
use Rattle.smpl_terms.specs.declared.var.Var.{Var}
use Rattle.smpl_patch.specs.declared.pattern.Pattern.{Pattern}
use Rattle.smpl_terms.specs.Vars.{same_var}
use Rattle.ctl_formula.specs.Plain.{Plain, True, Atom, EarlyExit, BraceOpen, BraceClose, Inside, Outside, Not, And, Or, AX, EX}
use Rattle.ctl_formula.specs.Plain.{AU, EU, After, InBranch, Exists}

-- each quantifier's part passes the test
abbrev pub each_quantifier : (Var → Plain → Bool) → Plain → Bool
each_quantifier test True = true
each_quantifier test (Atom p) = true
each_quantifier test EarlyExit = true
each_quantifier test (BraceOpen p b) = true
each_quantifier test (BraceClose p b) = true
each_quantifier test (Inside b) = true
each_quantifier test (Outside b) = true
each_quantifier test (Not f) = each_quantifier test f
each_quantifier test (And f g) = each_quantifier test f && each_quantifier test g
each_quantifier test (Or f g) = each_quantifier test f && each_quantifier test g
each_quantifier test (AX f) = each_quantifier test f
each_quantifier test (EX f) = each_quantifier test f
each_quantifier test (AU f g) = each_quantifier test f && each_quantifier test g
each_quantifier test (EU f g) = each_quantifier test f && each_quantifier test g
each_quantifier test (After f) = each_quantifier test f
each_quantifier test (InBranch i f) = each_quantifier test f
each_quantifier test (Exists x f) = test x f && each_quantifier test f

-- which variables an atom surely has
abbrev pub Surely : Type 0
Surely = Pattern → Var → Bool

module _ (sure : Surely) where
  abbrev mutual
    pub bound : Plain → Var → Bool
    bound True x = false
    bound (Atom p) x = sure p x
    bound EarlyExit x = false
    bound (BraceOpen p b) x = sure p x || same_var b x
    bound (BraceClose p b) x = sure p x || same_var b x
    bound (Inside b) x = same_var b x
    bound (Outside b) x = false
    bound (Not f) x = bound_not f x
    bound (And f g) x = bound f x || bound g x
    bound (Or f g) x = bound f x && bound g x
    bound (AX f) x = bound f x
    bound (EX f) x = bound f x
    bound (AU f g) x = bound g x
    bound (EU f g) x = bound g x
    bound (After f) x = bound f x
    bound (InBranch i f) x = bound f x
    bound (Exists y f) x = bound f x && not (same_var y x)

    pub bound_not : Plain → Var → Bool
    bound_not True x = true
    bound_not (Atom p) x = false
    bound_not EarlyExit x = false
    bound_not (BraceOpen p b) x = false
    bound_not (BraceClose p b) x = false
    bound_not (Inside b) x = false
    bound_not (Outside b) x = false
    bound_not (Not f) x = bound f x
    bound_not (And f g) x = bound_not f x && bound_not g x
    bound_not (Or f g) x = bound_not f x || bound_not g x
    bound_not (AX f) x = bound_not f x
    bound_not (EX f) x = bound_not f x
    bound_not (AU f g) x = bound_not g x
    bound_not (EU f g) x = bound_not g x
    bound_not (After f) x = false
    bound_not (InBranch i f) x = false
    bound_not (Exists y f) x = bound_not f x && not (same_var y x)

  -- each quantified variable is bound by the quantifier's part
  abbrev pub guarded : Plain → Bool
  guarded f = each_quantifier (λ x g. bound g x) f

  -- the same for the quantifiers of x only
  abbrev pub guarded_for : Var → Plain → Bool
  guarded_for x f = each_quantifier (λ y g. not (same_var y x) || bound g x) f
