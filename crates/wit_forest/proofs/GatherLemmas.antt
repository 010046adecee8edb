-- The loop that gathers a forest: everything that is found is in the forest, and what the states so far lead to is there.
use Rattle.std.proofs.Common.{◌≡◌, ℕ, zero, suc, ◌+◌, ◌<◌, ◌≤◌, ⊎_elim, Bool, true, false, ◌||◌, refl, sym, ap, ◌∙◌, subst}
use Rattle.std.proofs.Common.{arith, List, [], ◌∷◌, ◌++◌, length, get_or, below_more, Contains}
use Rattle.std.proofs.lemmas.List.Elements.{Contains-append_cases}
use Rattle.cfg_build.specs.CfgGraph.Flow.{Flow, IsSound}
use Rattle.smpl_terms.specs.declared.var.Var.{Var}
use Rattle.smpl_terms.specs.declared.value.Value.{Value}
use Rattle.smpl_terms.specs.Environments.{Environment, total}
use Rattle.smpl_patch.specs.declared.witness.Witness.{Witness}
use Rattle.ctl_formula.specs.Tables.{at, plains}
use Rattle.ctl_formula.specs.Formulas.{FormulaOf, IsFormula}
use Rattle.ctl_fixpoint.proofs.CtlHolds.TestLemmas.{any_has, or_cases, or_right, or_left, same_bool}
use Rattle.wit_forest.specs.WitOrder.Forests.{has, HaveSame, Rise}
use Rattle.wit_forest.specs.WitOrder.Sizes.{forest_size}
use Rattle.wit_forest.specs.WitTrees.Graphs.{world_of}
use Rattle.wit_forest.proofs.WitTrees.RiseLemmas.{forest_rises}
use Rattle.wit_forest.specs.declared.states.State.{State}
use Rattle.wit_forest.specs.Gathered.{Covered, IsAdded, InRange, IsExplored, Grows, Adds, HasTooMany, is_there, forest_at}
use Rattle.wit_forest.proofs.AddLemmas.{of_state, added_there, covered_more}
use Rattle.wit_forest.proofs.ExploredLemmas.{covered_found}
use Rattle.wit_forest.proofs.GrowLemmas.{explored_more, range_more}
use Rattle.wit_forest.proofs.LargeLemmas.{large_forest, large_more}
use Rattle.wit_forest.proofs.LoopLemmas.{one_item, only_one, none_in}

absorbed : (a b : Bool) → (b ≡ true → a ≡ true) → (a || b) ≡ a
absorbed true b h = refl
absorbed false true h = sym (h refl)
absorbed false false h = refl

length-longer : (states rest more : List State) → more ≡ states ++ rest → (n : ℕ) (one : State) → n < length states → get_or more n one ≡ get_or states n one
length-longer [] rest more e n one lt = absurd (omega (arith, lt))
length-longer (t ∷ ts) rest more e zero one lt = ap (λ l. get_or l zero one) e
length-longer (t ∷ ts) rest more e (suc n) one lt = ap (λ l. get_or l (suc n) one) e ∙ length-longer ts rest (ts ++ rest) refl n one (omega (arith, lt))

module _ (g : Flow) (f : FormulaOf) (part node : ℕ) (env : Environment) where
  abbrev root : List Witness
  root = forest_at g f part node env

  -- the first n states are explored
  pub record Gathered (n : ℕ) (states : List State) (found : List Witness) : Type 0 where
    pub start : Covered states part node env
    pub range : (one : State) → Contains states one → InRange g f part one.part one.node
    pub there : (z : Witness) → is_there g f states found z ≡ has root z
    pub done : (k : ℕ) → k < n → (one : State) → k < length states → get_or states k one ≡ one
        → IsExplored g f states found one.part one.node (total one.env)

  pub gathered_first : (new : List State) (start : List (Var × Value)) → total start ≡ env → IsAdded [] new part node start
      → Covered new part node (total start) → InRange g f part part node → Gathered 0 new []
  gathered_first new start e a c r = record {
    start = subst (Covered new part node) e c;
    range = λ one m. ⊎_elim
        (λ none. absurd (none_in one (subst (λ l. Contains l one) none m)))
        (λ more.
        let is : more.0 ≡ one = only_one more.0 one (subst (λ l. Contains l one) more.1 m) in
        subst (λ t. InRange g f part t.part t.node) is
        (subst (λ k. InRange g f part more.0.part k) (sym more.3) (subst (λ j. InRange g f part j node) (sym more.2) r)))
        a;
    there = λ z. added_there g f z [] new part node start a c ∙ ap (λ d. has (forest_at g f part node d) z) e;
    done = λ k lt. absurd (omega (arith, lt));
  }

  module _ (n : ℕ) (states : List State) (found : List Witness) (p : Gathered n states found) (one : State)
      (lt : n < length states) (is : get_or states n one ≡ one) where
    member : Contains states one
    member = (n, lt, is)

    pub state_in_range : InRange g f one.part one.part one.node
    state_in_range = let r = p.range one member in record { within = r.within; low = omega arith; part = r.part; node = r.node }

    pub state_low : one.part ≤ part
    state_low = (p.range one member).low

    state_there : (z : Witness) → has (forest_at g f one.part one.node (total one.env)) z ≡ true → is_there g f states found z ≡ true
    state_there z h = or_right (has found z) _ (any_has (of_state g f z) one states member h)

    pub large_state : HasTooMany f.decls (λ z. is_there g f states found z || has (forest_at g f one.part one.node (total one.env)) z)
        → 1000000 < forest_size root
    large_state l = large_forest f.decls root (large_more f.decls
        (λ z. is_there g f states found z || has (forest_at g f one.part one.node (total one.env)) z) (has root)
        (λ z k. sym (p.there z) ∙ ⊎_elim (λ here. here) (state_there z) (or_cases (is_there g f states found z) _ k)) l)

    pub gathered_more : (more : List State) (trees : List Witness)
        → Adds g f states more found trees (forest_at g f one.part one.node (total one.env))
        → IsExplored g f more trees one.part one.node (total one.env)
        → Grows g f one.part states more found trees → Gathered (n + 1) more trees
    gathered_more more trees a x r = record {
      start = subst (λ l. Covered l part node env) (sym r.longer) (covered_more states r.rest part node env p.start);
      range = λ t m. ⊎_elim
          (λ old. p.range t old)
          (λ new. range_more g f one.part part t.part t.node state_low (r.range t new))
          (Contains-append_cases states r.rest t (subst (λ l. Contains l t) r.longer m));
      there = λ z. a z ∙ absorbed (is_there g f states found z) _ (state_there z) ∙ p.there z;
      done = below_more (λ k. (t : State) → k < length more → get_or more k t ≡ t → IsExplored g f more trees t.part t.node (total t.env)) n
          (λ k lk t km e.
          let ks : k < length states = omega (arith, lk, lt) in
          explored_more g f one.part states more found trees r t.part t.node (total t.env)
          (p.done k lk t ks (sym (length-longer states r.rest more r.longer k t ks) ∙ e)))
          (λ t km e.
          let here : one ≡ t = one_item states n t one lt (sym (length-longer states r.rest more r.longer n t lt) ∙ e) (sym is) in
          subst (λ u. IsExplored g f more trees u.part u.node (total u.env)) here x);
    }

  -- at the end the found trees are the forest
  pub gathered_all : IsSound g → IsFormula f → (n : ℕ) (states : List State) (found : List Witness) → length states ≤ n → Gathered n states found
      → HaveSame found root
  gathered_all ok formula n states found le p z = same_bool
      (λ h. sym (p.there z) ∙ or_left (has found z) _ h)
      (λ h. covered_found g f ok states found formula part p.range
      (λ one c. let l = c.1 in p.done c.0 (omega (arith, l, le)) one c.1 c.2) part node env p.start z h)

  pub large_all : IsSound g → IsFormula f → (n : ℕ) (states : List State) (found : List Witness) → length states ≤ n → Gathered n states found
      → HasTooMany f.decls (has found) → 1000000 < forest_size root
  large_all ok formula n states found le p l = large_forest f.decls root
      (large_more f.decls (has found) (has root) (λ z k. sym (gathered_all ok formula n states found le p z) ∙ k) l)

  pub root_rises : Rise f.decls root
  root_rises = forest_rises (world_of f.decls f.tokens g) (at (plains f.nodes) part) node env
