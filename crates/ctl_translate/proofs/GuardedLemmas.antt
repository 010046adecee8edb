-- A formula whose quantifiers are of known variables is guarded if it is guarded for each local variable.
use Rattle.std.proofs.Common.{◌≡◌, Bool, true, false, not, ◌&&◌, ◌||◌, refl, sym, ap, ◌∙◌, List}
use Rattle.smpl_terms.specs.declared.var.Var.{Var}
use Rattle.smpl_terms.specs.Vars.{same_var}
use Rattle.ctl_formula.specs.Plain.{Plain, True, Atom, EarlyExit, BraceOpen, BraceClose, Inside, Outside, Not, And, Or, AX, EX, AU, EU, After, InBranch, Exists}
use Rattle.ctl_formula.specs.Bounds.{Surely, bound, guarded, guarded_for}
use Rattle.ctl_formula.proofs.TableLemmas.{and-left, and-right}
use Rattle.ctl_table.specs.Table.{in_scope}
use Rattle.ctl_translate.proofs.GuardLemmas.{known}

both : (a b : Bool) → a ≡ true → b ≡ true → (a && b) ≡ true
both a b h k = ap (λ z. z && b) h ∙ k

local-or : (a b s : Bool) → (a || b) ≡ true → s ≡ true → (a ≡ true → (not s || b) ≡ true) → b ≡ true
local-or true b s h e k = let r = k refl in let q : (not s || b) ≡ b = ap (λ z. not z || b) e in sym q ∙ r
local-or false b s h e k = h

module _ (sure : Surely) (locals : List Var) (same : (x : Var) → same_var x x ≡ true) where
  pub guarded-all : (f : Plain) → known sure locals f ≡ true → ((x : Var) → in_scope locals x ≡ true → guarded_for sure x f ≡ true) → guarded sure f ≡ true
  guarded-all True h q = refl
  guarded-all (Atom p) h q = refl
  guarded-all EarlyExit h q = refl
  guarded-all (BraceOpen p b) h q = refl
  guarded-all (BraceClose p b) h q = refl
  guarded-all (Inside b) h q = refl
  guarded-all (Outside b) h q = refl
  guarded-all (Not f) h q = guarded-all f h q
  guarded-all (And f g) h q =
      both (guarded sure f) (guarded sure g)
      (guarded-all f (and-left (known sure locals f) (known sure locals g) h) (λ x k. and-left (guarded_for sure x f) (guarded_for sure x g) (q x k)))
      (guarded-all g (and-right (known sure locals f) (known sure locals g) h) (λ x k. and-right (guarded_for sure x f) (guarded_for sure x g) (q x k)))
  guarded-all (Or f g) h q =
      both (guarded sure f) (guarded sure g)
      (guarded-all f (and-left (known sure locals f) (known sure locals g) h) (λ x k. and-left (guarded_for sure x f) (guarded_for sure x g) (q x k)))
      (guarded-all g (and-right (known sure locals f) (known sure locals g) h) (λ x k. and-right (guarded_for sure x f) (guarded_for sure x g) (q x k)))
  guarded-all (AX f) h q = guarded-all f h q
  guarded-all (EX f) h q = guarded-all f h q
  guarded-all (AU f g) h q =
      both (guarded sure f) (guarded sure g)
      (guarded-all f (and-left (known sure locals f) (known sure locals g) h) (λ x k. and-left (guarded_for sure x f) (guarded_for sure x g) (q x k)))
      (guarded-all g (and-right (known sure locals f) (known sure locals g) h) (λ x k. and-right (guarded_for sure x f) (guarded_for sure x g) (q x k)))
  guarded-all (EU f g) h q =
      both (guarded sure f) (guarded sure g)
      (guarded-all f (and-left (known sure locals f) (known sure locals g) h) (λ x k. and-left (guarded_for sure x f) (guarded_for sure x g) (q x k)))
      (guarded-all g (and-right (known sure locals f) (known sure locals g) h) (λ x k. and-right (guarded_for sure x f) (guarded_for sure x g) (q x k)))
  guarded-all (After f) h q = guarded-all f h q
  guarded-all (InBranch i f) h q = guarded-all f h q
  guarded-all (Exists y f) h q =
      both (bound sure f y) (guarded sure f)
      (local-or (in_scope locals y) (bound sure f y) (same_var y y) (and-left (in_scope locals y || bound sure f y) (known sure locals f) h) (same y)
      (λ k. and-left (not (same_var y y) || bound sure f y) (guarded_for sure y f) (q y k)))
      (guarded-all f (and-right (in_scope locals y || bound sure f y) (known sure locals f) h)
      (λ x k. and-right (not (same_var y x) || bound sure f x) (guarded_for sure x f) (q x k)))
