-- Sameness of states is an equivalence, and states that are the same feed a hasher the same input.
use Rattle.std.specs.Prelude.{◌≡◌, ℕ, Bool, true, false, ◌&&◌, nat_eq, List, [], ◌∷◌, ◌++◌}
use Rattle.std.specs.Bool.{Decides}
use Rattle.std.specs.Cmp.{IsEquivalence, first_so, second_so, and_equiv, on_equiv, nat_eq_equiv}
use Rattle.std.specs.Hash as fed
use Rattle.std.proofs.Common.{refl, ap, subst, sym, ◌∙◌}
use Rattle.std.proofs.lemmas.Bool.Decides.{Decides-eqb}
use Rattle.std.proofs.lemmas.Cmp.{eq_by_cmp_equiv}
use Rattle.smpl_terms.specs.declared.var.Var.{Var}
use Rattle.smpl_terms.specs.declared.value.Value.{Value}
use Rattle.smpl_terms.specs.declared.value.Value.TheVariants.{Term, Place}
use Rattle.smpl_terms.specs.Vars.{same_var}
use Rattle.smpl_terms.specs.Values.{same}
use Rattle.env_parts.specs.Parts.{Pairs, same_env}
use Rattle.env_parts.specs.Ordered.{env_order_total}
use Rattle.env_parts.proofs.EnvOrder.{is_eq-env_order}
use Rattle.wit_forest.specs.declared.states.State.{State}
use Rattle.wit_forest.specs.States.{same_state, value_input, env_input, state_input}

same_env_equiv : IsEquivalence same_env
same_env_equiv = subst IsEquivalence (λ i a b. is_eq-env_order a b i) (eq_by_cmp_equiv env_order_total)

pub state_equiv : IsEquivalence same_state
state_equiv = and_equiv (on_equiv (λ s. s.part) nat_eq_equiv) (and_equiv (on_equiv (λ s. s.node) nat_eq_equiv) (on_equiv (λ s. s.env) same_env_equiv))

value_fed : (v w : Value) → same v w ≡ true → value_input v ≡ value_input w
value_fed (Term a) (Term b) h = refl
value_fed (Term a) (Place q) h = absurd cc
value_fed (Place p) (Term b) h = absurd cc
value_fed (Place p) (Place q) h = ap fed.u64 ((Decides-eqb p q).0 h)

env_fed : (a b : Pairs) → same_env a b ≡ true → env_input a ≡ env_input b
env_fed [] [] h = refl
env_fed [] (q ∷ qs) h = absurd cc
env_fed (p ∷ ps) [] h = absurd cc
env_fed (p ∷ ps) (q ∷ qs) h =
    let v = value_fed p.1 q.1 (second_so (same_var p.0 q.0) (same p.1 q.1) (first_so _ (same_env ps qs) h)) in
    let rest = env_fed ps qs (second_so (same_var p.0 q.0 && same p.1 q.1) (same_env ps qs) h) in
    λ i. v i ++ rest i

pub states_feed_alike : fed.Alike same_state state_input
states_feed_alike = fed.and-Alike (fed.on_Alike (λ s. s.part) (fed.same_Alike fed.usize Decides-eqb))
    (fed.and-Alike (fed.on_Alike (λ s. s.node) (fed.same_Alike fed.u32 Decides-eqb))
    (fed.on_Alike (λ s. s.env) (record { fed = env_fed })))
