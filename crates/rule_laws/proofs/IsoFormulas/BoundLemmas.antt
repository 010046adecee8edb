-- A formula with all forms is as large as the formula, and binds the same variables.
use Rattle.std.proofs.Common.{◌≡◌, ℕ, ◌+◌, max, Bool, not, ◌&&◌, ◌||◌, refl, ap, ap₂, List}
use Rattle.std.specs.Prelude.{nat_le}
use Rattle.smpl_terms.specs.declared.var.Var.{Var}
use Rattle.smpl_terms.specs.Vars.{same_var}
use Rattle.smpl_patch.specs.declared.pattern.PatToken.{PatToken}
use Rattle.smpl_patch.specs.declared.pattern.Pattern.{Pattern}
use Rattle.smpl_patch.specs.declared.rule.Iso.{Iso}
use Rattle.ctl_formula.specs.Plain.{Plain, True, Atom, EarlyExit, BraceOpen, BraceClose, Inside, Outside, Not, And, Or, AX}
use Rattle.ctl_formula.specs.Plain.{EX, AU, EU, After, InBranch, Exists}
use Rattle.ctl_formula.specs.Plain.{size, depth, most_parts, most_around, fits}
use Rattle.ctl_formula.specs.Bounds.{Surely, bound, bound_not, guarded_for}
use Rattle.iso_expand.specs.Bodies.{expanded_pattern}
use Rattle.rule_laws.specs.IsoFormulas.Formulas.{expanded_formula}

module _ (isos : List Iso) (tokens : List PatToken) where
  abbrev F : Plain → Plain
  F = expanded_formula isos tokens

  abbrev one-more : ℕ → ℕ → ℕ
  one-more m n = 1 + m + n

  abbrev deeper : ℕ → ℕ → ℕ
  deeper m n = 1 + max m n

  size-same : (f : Plain) → size (F f) ≡ size f
  size-same True = refl
  size-same (Atom p) = refl
  size-same EarlyExit = refl
  size-same (BraceOpen p b) = refl
  size-same (BraceClose p b) = refl
  size-same (Inside b) = refl
  size-same (Outside b) = refl
  size-same (Not f) = ap (λ (n : ℕ). 1 + n) (size-same f)
  size-same (And f g) = ap₂ one-more (size-same f) (size-same g)
  size-same (Or f g) = ap₂ one-more (size-same f) (size-same g)
  size-same (AX f) = ap (λ (n : ℕ). 1 + n) (size-same f)
  size-same (EX f) = ap (λ (n : ℕ). 1 + n) (size-same f)
  size-same (AU f g) = ap₂ one-more (size-same f) (size-same g)
  size-same (EU f g) = ap₂ one-more (size-same f) (size-same g)
  size-same (After f) = ap (λ (n : ℕ). 1 + n) (size-same f)
  size-same (InBranch i f) = ap (λ (n : ℕ). 1 + n) (size-same f)
  size-same (Exists x f) = ap (λ (n : ℕ). 1 + n) (size-same f)

  depth-same : (f : Plain) → depth (F f) ≡ depth f
  depth-same True = refl
  depth-same (Atom p) = refl
  depth-same EarlyExit = refl
  depth-same (BraceOpen p b) = refl
  depth-same (BraceClose p b) = refl
  depth-same (Inside b) = refl
  depth-same (Outside b) = refl
  depth-same (Not f) = ap (λ (n : ℕ). 1 + n) (depth-same f)
  depth-same (And f g) = ap₂ deeper (depth-same f) (depth-same g)
  depth-same (Or f g) = ap₂ deeper (depth-same f) (depth-same g)
  depth-same (AX f) = ap (λ (n : ℕ). 1 + n) (depth-same f)
  depth-same (EX f) = ap (λ (n : ℕ). 1 + n) (depth-same f)
  depth-same (AU f g) = ap₂ deeper (depth-same f) (depth-same g)
  depth-same (EU f g) = ap₂ deeper (depth-same f) (depth-same g)
  depth-same (After f) = ap (λ (n : ℕ). 1 + n) (depth-same f)
  depth-same (InBranch i f) = ap (λ (n : ℕ). 1 + n) (depth-same f)
  depth-same (Exists x f) = ap (λ (n : ℕ). 1 + n) (depth-same f)

  pub fits-same : (f : Plain) → fits (F f) ≡ fits f
  fits-same f = ap₂ (λ (m n : ℕ). nat_le m most_parts && nat_le n most_around) (size-same f) (depth-same f)

  module _ (new old : Surely) (same : (p : Pattern) (x : Var) → new (expanded_pattern isos tokens p) x ≡ old p x) where
    mutual
      pub bound-same : (f : Plain) (x : Var) → bound new (F f) x ≡ bound old f x
      bound-same True x = refl
      bound-same (Atom p) x = same p x
      bound-same EarlyExit x = refl
      bound-same (BraceOpen p b) x = ap (λ (z : Bool). z || same_var b x) (same p x)
      bound-same (BraceClose p b) x = ap (λ (z : Bool). z || same_var b x) (same p x)
      bound-same (Inside b) x = refl
      bound-same (Outside b) x = refl
      bound-same (Not f) x = unbound-same f x
      bound-same (And f g) x = ap₂ (λ (y z : Bool). y || z) (bound-same f x) (bound-same g x)
      bound-same (Or f g) x = ap₂ (λ (y z : Bool). y && z) (bound-same f x) (bound-same g x)
      bound-same (AX f) x = bound-same f x
      bound-same (EX f) x = bound-same f x
      bound-same (AU f g) x = bound-same g x
      bound-same (EU f g) x = bound-same g x
      bound-same (After f) x = bound-same f x
      bound-same (InBranch i f) x = bound-same f x
      bound-same (Exists y f) x = ap (λ (z : Bool). z && not (same_var y x)) (bound-same f x)

      unbound-same : (f : Plain) (x : Var) → bound_not new (F f) x ≡ bound_not old f x
      unbound-same True x = refl
      unbound-same (Atom p) x = refl
      unbound-same EarlyExit x = refl
      unbound-same (BraceOpen p b) x = refl
      unbound-same (BraceClose p b) x = refl
      unbound-same (Inside b) x = refl
      unbound-same (Outside b) x = refl
      unbound-same (Not f) x = bound-same f x
      unbound-same (And f g) x = ap₂ (λ (y z : Bool). y && z) (unbound-same f x) (unbound-same g x)
      unbound-same (Or f g) x = ap₂ (λ (y z : Bool). y || z) (unbound-same f x) (unbound-same g x)
      unbound-same (AX f) x = unbound-same f x
      unbound-same (EX f) x = unbound-same f x
      unbound-same (AU f g) x = unbound-same g x
      unbound-same (EU f g) x = unbound-same g x
      unbound-same (After f) x = refl
      unbound-same (InBranch i f) x = refl
      unbound-same (Exists y f) x = ap (λ (z : Bool). z && not (same_var y x)) (unbound-same f x)

    pub guarded-same : (x : Var) (f : Plain) → guarded_for new x (F f) ≡ guarded_for old x f
    guarded-same x True = refl
    guarded-same x (Atom p) = refl
    guarded-same x EarlyExit = refl
    guarded-same x (BraceOpen p b) = refl
    guarded-same x (BraceClose p b) = refl
    guarded-same x (Inside b) = refl
    guarded-same x (Outside b) = refl
    guarded-same x (Not f) = guarded-same x f
    guarded-same x (And f g) = ap₂ (λ (y z : Bool). y && z) (guarded-same x f) (guarded-same x g)
    guarded-same x (Or f g) = ap₂ (λ (y z : Bool). y && z) (guarded-same x f) (guarded-same x g)
    guarded-same x (AX f) = guarded-same x f
    guarded-same x (EX f) = guarded-same x f
    guarded-same x (AU f g) = ap₂ (λ (y z : Bool). y && z) (guarded-same x f) (guarded-same x g)
    guarded-same x (EU f g) = ap₂ (λ (y z : Bool). y && z) (guarded-same x f) (guarded-same x g)
    guarded-same x (After f) = guarded-same x f
    guarded-same x (InBranch i f) = guarded-same x f
    guarded-same x (Exists y f) = ap₂ (λ (b c : Bool). (not (same_var y x) || b) && c) (bound-same f x) (guarded-same x f)
