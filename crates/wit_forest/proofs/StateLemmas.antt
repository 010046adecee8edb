-- What follows for a list of states to which a state is added unless it is already there.
use Rattle.std.proofs.Common.{◌≡◌, ℕ, Bool, true, false, cond, ◌&&◌, nat_eq, inl, inr, refl, sym, ap, ◌∙◌, subst, List, [], ◌∷◌, ◌++◌}
use Rattle.std.proofs.Common.{Some, unwrap_or, if◌then◌else◌}
use Rattle.std.specs.List.{list_any}
use Rattle.std.specs.Cmp.{first_so, second_so}
use Rattle.std.proofs.lemmas.Bool.Decides.{Decides-eqb}
use Rattle.smpl_terms.specs.declared.var.Var.{Var}
use Rattle.smpl_terms.specs.declared.value.Value.{Value}
use Rattle.smpl_terms.specs.declared.value.Value.TheVariants.{Place}
use Rattle.smpl_terms.specs.Vars.{same_var}
use Rattle.smpl_terms.specs.Values.{same}
use Rattle.smpl_terms.specs.Environments.{total, value_in}
use Rattle.smpl_terms.proofs.VarLaws.{same_var-equal}
use Rattle.smpl_terms.proofs.ValueLaws.{same-refl, same-sym}
use Rattle.env_parts.specs.Parts.{Pairs, same_env}
use Rattle.ctl_fixpoint.proofs.CtlHolds.TestLemmas.{any_found}
use Rattle.wit_forest.specs.WitTrees.Alike.{Alike}
use Rattle.wit_forest.specs.declared.states.State.{State}
use Rattle.wit_forest.specs.Gathered.{Covered, IsAdded}
use Rattle.wit_forest.specs.States.{same_state, with_state}
use Rattle.wit_forest.proofs.AddLemmas.{covered_last}

-- environments that are the same give each variable the same value
alike_back : (ps qs : Pairs) → same_env ps qs ≡ true → Alike (total qs) (total ps)
alike_back [] [] h y = same-refl (Place 0)
alike_back [] (q ∷ qs) h y = absurd cc
alike_back (p ∷ ps) [] h y = absurd cc
alike_back (p ∷ ps) (q ∷ qs) h y =
    let pair : (same_var p.0 q.0 && same p.1 q.1) ≡ true = first_so _ (same_env ps qs) h in
    at (same_var p.0 y) (same_var q.0 y) (ap (λ z. same_var z y) (same_var-equal p.0 q.0 (first_so _ (same p.1 q.1) pair)))
    (same-sym q.1 p.1 ∙ second_so (same_var p.0 q.0) (same p.1 q.1) pair) (alike_back ps qs (second_so (same_var p.0 q.0 && same p.1 q.1) (same_env ps qs) h) y)
  where
    at : (a b : Bool) → a ≡ b → same q.1 p.1 ≡ true → same (unwrap_or (value_in qs y) (Place 0)) (unwrap_or (value_in ps y) (Place 0)) ≡ true
        → same (unwrap_or (cond b (Some q.1) (value_in qs y)) (Place 0)) (unwrap_or (cond a (Some p.1) (value_in ps y)) (Place 0)) ≡ true
    at true true e h k = h
    at true false e h k = absurd cc
    at false true e h k = absurd cc
    at false false e h k = k

-- a state that is there is covered
there : (states : List State) (one : State) → list_any (same_state one) states ≡ true → Covered states one.part one.node (total one.env)
there states one h =
    let u = any_found (same_state one) states h in
    let part : nat_eq one.part u.0.part ≡ true = first_so _ _ u.2 in
    let node : nat_eq one.node u.0.node ≡ true = first_so _ _ (second_so (nat_eq one.part u.0.part) _ u.2) in
    let env : same_env one.env u.0.env ≡ true = second_so (nat_eq one.node u.0.node) _ (second_so (nat_eq one.part u.0.part) _ u.2) in
    (u.0, u.1, sym ((Decides-eqb one.part u.0.part).0 part), sym ((Decides-eqb one.node u.0.node).0 node), alike_back one.env u.0.env env)

-- the state is covered in the new list
pub covered_with : (old new : List State) (one : State) (env : Pairs) → new ≡ with_state old one → one.env ≡ env
    → Covered new one.part one.node (total env)
covered_with old new one env e h = by (list_any (same_state one) old) refl
  where
    by : (b : Bool) → list_any (same_state one) old ≡ b → Covered new one.part one.node (total env)
    by true k =
        let same_list : new ≡ old = e ∙ ap (λ c. if c then old else old ++ one ∷ []) k in
        subst (λ l. Covered l one.part one.node (total env)) (sym same_list)
        (subst (λ d. Covered old one.part one.node (total d)) h (there old one k))
    by false k = covered_last old new one env (e ∙ ap (λ c. if c then old else old ++ one ∷ []) k) h

-- the new list is the old one, or has the state appended
pub added_with : (old new : List State) (one : State) (env : Pairs) → new ≡ with_state old one → one.env ≡ env
    → IsAdded old new one.part one.node env
added_with old new one env e h = by (list_any (same_state one) old) refl
  where
    by : (b : Bool) → list_any (same_state one) old ≡ b → IsAdded old new one.part one.node env
    by true k = inl (e ∙ ap (λ c. if c then old else old ++ one ∷ []) k)
    by false k = inr (one, e ∙ ap (λ c. if c then old else old ++ one ∷ []) k, refl, refl, h)
