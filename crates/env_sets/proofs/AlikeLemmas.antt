-- A set cannot distinguish environments whose values are the same.
use Rattle.std.proofs.Common.{◌≡◌, Bool, true, false, cond, refl, List, [], ◌∷◌}
use Rattle.smpl_terms.specs.declared.value.Value.{Value}
use Rattle.env_sets.specs.declared.bounds.Bound.{Bound}
use Rattle.smpl_terms.specs.Values.{same}
use Rattle.env_sets.specs.Sets.{entry_denotes, set_denotes}
use Rattle.smpl_terms.specs.declared.var.Var.{Var}
use Rattle.smpl_terms.specs.Vars.{same_var}
use Rattle.smpl_terms.specs.Environments.{Environment, change}
use Rattle.smpl_terms.proofs.ValueLaws.{same-refl}
use Rattle.env_sets.proofs.BoundLemmas.{fits-along}

-- each variable has the same value in both
abbrev pub Alike : Environment → Environment → Type 0
Alike e f = (x : Var) → same (e x) (f x) ≡ true

entry_alike : (e f : Environment) → Alike e f → (ps : List (Var × Bound)) → entry_denotes ps e ≡ entry_denotes ps f
entry_alike e f a [] = refl
entry_alike e f a (p ∷ ps) = let h = fits-along (e p.0) (f p.0) (a p.0) p.1 in let r = entry_alike e f a ps in cc

pub set_alike : (e f : Environment) → Alike e f → (es : List (List (Var × Bound))) → set_denotes es e ≡ set_denotes es f
set_alike e f a [] = refl
set_alike e f a (ps ∷ es) = let h = entry_alike e f a ps in let r = set_alike e f a es in cc

change_step : (env : Environment) (v w : Value) (y : Var) (b : Bool) → same v w ≡ true → same (cond b v (env y)) (cond b w (env y)) ≡ true
change_step env v w y true h = h
change_step env v w y false h = same-refl (env y)

pub change_alike : (env : Environment) (x : Var) (v w : Value) → same v w ≡ true → Alike (change env x v) (change env x w)
change_alike env x v w h y = change_step env v w y (same_var y x) h
