-- An entry when some variables have values.
use Rattle.std.proofs.Common.{◌≡◌, Bool, true, false, ◌&&◌, ◌||◌, not, cond, refl, arith, List, [], ◌∷◌, Option, Some, None, is_some, unwrap_or}
use Rattle.std.specs.List.{list_all, filter}
use Rattle.std.proofs.lemmas.Grind.{common_steps}
use Rattle.smpl_terms.specs.declared.value.Value.{Value}
use Rattle.env_sets.specs.declared.bounds.Bound.{Bound}
use Rattle.env_sets.specs.Bounds.{fits}
use Rattle.env_sets.specs.Sets.{entry_denotes, entry_vars}
use Rattle.env_sets.specs.Splits.{fits_if}
use Rattle.smpl_terms.specs.declared.var.Var.{Var}
use Rattle.smpl_terms.specs.Environments.{Environment, value_in, has_value, over}

abbrev pub agrees : List (Var × Value) → List (Var × Bound) → Bool
agrees env ps = list_all (λ p. fits_if (value_in env p.0) p.1) ps

abbrev pub free : List (Var × Value) → List (Var × Bound) → List (Var × Bound)
free env ps = filter (λ p. not (has_value env p.0)) ps

split_step : (env : List (Var × Value)) (rest : Environment) (p : Var × Bound) (ps : List (Var × Bound)) (o : Option Value)
    → entry_denotes ps (over env rest) ≡ (agrees env ps && entry_denotes (free env ps) rest)
    → (fits (unwrap_or o (rest p.0)) p.1 && entry_denotes ps (over env rest))
    ≡ ((fits_if o p.1 && agrees env ps) && entry_denotes (cond (not (is_some o)) (p ∷ free env ps) (free env ps)) rest)
split_step env rest p ps None h = grind (arith, common_steps)
split_step env rest p ps (Some v) h = grind (arith, common_steps)

pub split : (env : List (Var × Value)) (rest : Environment) (ps : List (Var × Bound))
    → entry_denotes ps (over env rest) ≡ (agrees env ps && entry_denotes (free env ps) rest)
split env rest [] = refl
split env rest (p ∷ ps) = split_step env rest p ps (value_in env p.0) (split env rest ps)

vars_step : (env : List (Var × Value)) (t : Var → Bool) (p : Var × Bound) (ps : List (Var × Bound)) (b : Bool)
    → (entry_vars (λ x. t x || has_value env x) ps ≡ true → entry_vars t (free env ps) ≡ true)
    → ((t p.0 || b) && entry_vars (λ x. t x || has_value env x) ps) ≡ true → entry_vars t (cond (not b) (p ∷ free env ps) (free env ps)) ≡ true
vars_step env t p ps true r h = r (grind (arith, common_steps))
vars_step env t p ps false r h = let a = r (grind (arith, common_steps)) in grind (arith, common_steps)

pub free_vars : (env : List (Var × Value)) (t : Var → Bool) (ps : List (Var × Bound))
    → entry_vars (λ x. t x || has_value env x) ps ≡ true → entry_vars t (free env ps) ≡ true
free_vars env t [] h = refl
free_vars env t (p ∷ ps) h = vars_step env t p ps (has_value env p.0) (free_vars env t ps) h
