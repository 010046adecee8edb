-- An entry without a variable stands for what it stood for after some change of the variable.
use Rattle.std.proofs.Common.{◌≡◌, ℕ, suc, ◌+◌, ◌≤◌, Bool, true, false, ◌&&◌, ◌||◌, not, eqb, cond, refl, sym, ap, ◌∙◌, subst, arith, List, [], ◌∷◌}
use Rattle.std.specs.List.{list_any, filter}
use Rattle.std.specs.Bool.{Decides}
use Rattle.std.proofs.lemmas.Bool.Decides.{nat_tests}
use Rattle.std.proofs.lemmas.Grind.{common_steps}
use Rattle.smpl_terms.specs.declared.value.Value.{Value}
use Rattle.smpl_terms.specs.declared.value.Value.TheVariants.{Term, Place}
use Rattle.env_sets.specs.declared.bounds.Bound.{Bound}
use Rattle.env_sets.specs.declared.bounds.Bound.TheVariants.{Is, Not}
use Rattle.smpl_terms.specs.Values.{same}
use Rattle.env_sets.specs.Bounds.{fits}
use Rattle.env_sets.specs.Sets.{entry_denotes, entry_vars, ForSomeValue}
use Rattle.smpl_terms.specs.declared.var.Var.{Var}
use Rattle.smpl_terms.specs.Vars.{same_var, Above, Rising}
use Rattle.smpl_terms.specs.Environments.{Environment, change}
use Rattle.smpl_terms.proofs.VarLaws.{same_var-equal, less-apart}
use Rattle.smpl_terms.proofs.ValueLaws.{same-refl}
use Rattle.env_sets.proofs.PairLemmas.{both_true}

-- above each place of the list
abbrev above_places : List Value → ℕ
above_places [] = 0
above_places (Term a ∷ vs) = above_places vs
above_places (Place p ∷ vs) = suc (p + above_places vs)

fresh : (vs : List Value) (n : ℕ) → above_places vs ≤ n → list_any (λ v. same v (Place n)) vs ≡ false
fresh [] n h = refl
fresh (Term a ∷ vs) n h = fresh vs n h
fresh (Place p ∷ vs) n h =
    let r = fresh vs n (omega arith) in
    let ne : eqb p n ≡ false = grind (arith, nat_tests) in
    ap (λ b. b || list_any (λ v. same v (Place n)) vs) ne ∙ r

-- a value that the bound allows
abbrev pick : Bound → Value
pick (Is v) = v
pick (Not vs) = Place (above_places vs)

pick-fits : (b : Bound) → fits (pick b) b ≡ true
pick-fits (Is v) = same-refl v
pick-fits (Not vs) = ap not (fresh vs (above_places vs) (omega arith))

abbrev other : Var → Var × Bound → Bool
other x p = not (same_var p.0 x)

abbrev witness : Var → List (Var × Bound) → Value
witness x [] = Place 0
witness x (p ∷ ps) = cond (same_var p.0 x) (pick p.1) (witness x ps)

-- above x nothing changes
above_same : (x : Var) (v : Value) (ps : List (Var × Bound)) (env : Environment) → Above x ps
    → entry_denotes ps (change env x v) ≡ entry_denotes (filter (other x) ps) env
above_same x v [] env a = refl
above_same x v (p ∷ ps) env a =
    let ne : same_var p.0 x ≡ false = less-apart x p.0 a.0 in
    let r = above_same x v ps env a.1 in
    rw ne (ap (λ b. fits (env p.0) p.1 && b) r)

kept_step : (x : Var) (v : Value) (p : Var × Bound) (ps : List (Var × Bound)) (env : Environment) (t : Bool) → same_var p.0 x ≡ t → Rising (p ∷ ps)
    → (Rising ps → entry_denotes (filter (other x) ps) env ≡ true → entry_denotes ps (change env x (witness x ps)) ≡ true)
    → entry_denotes (cond (not t) (p ∷ filter (other x) ps) (filter (other x) ps)) env ≡ true
    → (fits (cond t (cond t (pick p.1) (witness x ps)) (env p.0)) p.1 && entry_denotes ps (change env x (cond t (pick p.1) (witness x ps)))) ≡ true
kept_step x v p ps env true e r rest h =
    let a : x ≡ p.0 = sym (same_var-equal p.0 x e) in
    both_true (fits (pick p.1) p.1) (entry_denotes ps (change env x (pick p.1))) (pick-fits p.1)
    (above_same x (pick p.1) ps env (subst (λ k. Above k ps) (sym a) r.0) ∙ h)
kept_step x v p ps env false e r rest h =
    let a : fits (env p.0) p.1 ≡ true = grind (arith, common_steps) in
    let b : entry_denotes (filter (other x) ps) env ≡ true = grind (arith, common_steps) in
    both_true (fits (env p.0) p.1) (entry_denotes ps (change env x (witness x ps))) a (rest r.1 b)

kept : (x : Var) (ps : List (Var × Bound)) (env : Environment) → Rising ps → entry_denotes (filter (other x) ps) env ≡ true
    → entry_denotes ps (change env x (witness x ps)) ≡ true
kept x [] env r h = refl
kept x (p ∷ ps) env r h = kept_step x (Place 0) p ps env (same_var p.0 x) refl r (kept x ps env) h

back_step : (x : Var) (v : Value) (p : Var × Bound) (ps : List (Var × Bound)) (env : Environment) (t : Bool)
    → (entry_denotes ps (change env x v) ≡ true → entry_denotes (filter (other x) ps) env ≡ true)
    → (fits (cond t v (env p.0)) p.1 && entry_denotes ps (change env x v)) ≡ true
    → entry_denotes (cond (not t) (p ∷ filter (other x) ps) (filter (other x) ps)) env ≡ true
back_step x v p ps env true rest h = rest (grind (arith, common_steps))
back_step x v p ps env false rest h =
    let a : fits (env p.0) p.1 ≡ true = grind (arith, common_steps) in
    both_true (fits (env p.0) p.1) (entry_denotes (filter (other x) ps) env) a (rest (grind (arith, common_steps)))

back : (x : Var) (v : Value) (ps : List (Var × Bound)) (env : Environment) → entry_denotes ps (change env x v) ≡ true
    → entry_denotes (filter (other x) ps) env ≡ true
back x v [] env h = refl
back x v (p ∷ ps) env h = back_step x v p ps env (same_var p.0 x) (back x v ps env) h

pub without_meaning : (x : Var) (ps : List (Var × Bound)) → Rising ps → (env : Environment)
    → Decides (entry_denotes (filter (λ p. not (same_var p.0 x)) ps) env) (ForSomeValue (λ v. entry_denotes ps (change env x v)))
without_meaning x ps r env = (λ h. (witness x ps, kept x ps env r h), λ w. back x w.0 ps env w.1)

vars_step : (x : Var) (t : Var → Bool) (p : Var × Bound) (ps : List (Var × Bound)) (b : Bool)
    → (entry_vars (λ y. t y || same_var y x) ps ≡ true → entry_vars t (filter (other x) ps) ≡ true)
    → ((t p.0 || b) && entry_vars (λ y. t y || same_var y x) ps) ≡ true
    → entry_vars t (cond (not b) (p ∷ filter (other x) ps) (filter (other x) ps)) ≡ true
vars_step x t p ps true rest h = rest (grind (arith, common_steps))
vars_step x t p ps false rest h =
    let a : t p.0 ≡ true = grind (arith, common_steps) in
    both_true (t p.0) (entry_vars t (filter (other x) ps)) a (rest (grind (arith, common_steps)))

pub without_vars : (x : Var) (ps : List (Var × Bound)) (t : Var → Bool) → entry_vars (λ y. t y || same_var y x) ps ≡ true
    → entry_vars t (filter (λ p. not (same_var p.0 x)) ps) ≡ true
without_vars x [] t h = refl
without_vars x (p ∷ ps) t h = vars_step x t p ps (same_var p.0 x) (without_vars x ps t) h
