-- The law on bound variables: each has a value of the graph.
use Rattle.std.specs.Prelude.{◌≡◌, ℕ, true, List}
use Rattle.std.specs.Coded.{Π_prop, →_prop, Coded-set, coded_bool}
use Rattle.cfg_build.specs.CfgGraph.Flow.{Flow}
use Rattle.smpl_terms.specs.declared.var.Var.{Var}
use Rattle.smpl_terms.specs.Environments.{Environment}
use Rattle.smpl_patch.specs.declared.pattern.VarDecl.{VarDecl}
use Rattle.smpl_patch.specs.declared.pattern.PatToken.{PatToken}
use Rattle.smpl_patch.specs.declared.pattern.Pattern.{Pattern}
use Rattle.smpl_patch.specs.Patterns.{sure, stands}
use Rattle.ctl_formula.specs.Plain.{Plain}
use Rattle.ctl_formula.specs.Bounds.{bound, bound_not}
use Rattle.ctl_fixpoint.specs.CtlHolds.Values.{values_of, is_among}
use Rattle.ctl_fixpoint.specs.CtlHolds.Holding.{Holds}

-- Each sure variable of the pattern occurs in it. This is so unless a disjunction of the pattern's first form has no branch:
-- every variable is sure in such a disjunction. No patch spells one.
abbrev pub SureStand : List VarDecl → List PatToken → Pattern → Type 0
SureStand decls tokens p = (x : Var) → sure decls tokens p x ≡ true → stands decls tokens p x ≡ true

-- this has one proof
pub sure_stand-prop : (decls : List VarDecl) (tokens : List PatToken) (p : Pattern) → IsProp (SureStand decls tokens p)
sure_stand-prop decls tokens p =
    Π_prop (λ x. →_prop (Coded-set coded_bool (stands decls tokens p x) true))

-- a variable that the formula binds has a value of the graph where the formula holds; one that it binds on failure has a
-- value where it doesn't hold
pub record HasValues (decls : List VarDecl) (tokens : List PatToken) (g : Flow) (m : ℕ) (f : Plain) (s : ℕ)
    (env : Environment) (x : Var) : Type 0 where
  pub holding : bound (sure decls tokens) f x ≡ true → Holds decls tokens g m f s env
      → is_among (values_of g) (env x) ≡ true
  pub failing : bound_not (sure decls tokens) f x ≡ true → (Holds decls tokens g m f s env → ⊥)
      → is_among (values_of g) (env x) ≡ true
