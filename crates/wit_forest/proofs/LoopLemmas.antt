-- A loop over a list that adds a state for each item.
use Rattle.std.proofs.Common.{◌≡◌, ℕ, zero, suc, ◌+◌, ◌<◌, ◌≤◌, ⊎_elim, Bool, true, false, ◌||◌, refl, sym, ap, ◌∙◌, subst}
use Rattle.std.proofs.Common.{arith, List, [], ◌∷◌, ◌++◌, length, get_or, take, append_assoc, below_more, Contains}
use Rattle.std.proofs.Math.Bool.{or_assoc}
use Rattle.std.proofs.lemmas.List.{append-nil, take_all}
use Rattle.std.proofs.lemmas.List.Elements.{Contains-append_cases}
use Rattle.std.proofs.lemmas.List.Folds.{list_any_more}
use Rattle.std.specs.List.{list_any}
use Rattle.cfg_build.specs.CfgGraph.Flow.{Flow}
use Rattle.smpl_terms.specs.declared.var.Var.{Var}
use Rattle.smpl_terms.specs.declared.value.Value.{Value}
use Rattle.smpl_terms.specs.Environments.{Environment, total}
use Rattle.smpl_patch.specs.declared.witness.Witness.{Witness}
use Rattle.ctl_formula.specs.Formulas.{FormulaOf}
use Rattle.wit_forest.specs.WitOrder.Forests.{has}
use Rattle.wit_forest.specs.declared.states.State.{State}
use Rattle.wit_forest.specs.Gathered.{Covered, IsAdded, InRange, Grows, Adds, forest_at}
use Rattle.wit_forest.proofs.AddLemmas.{of_state, added_there, covered_more}

pub or-none : (b : Bool) → (b || false) ≡ b
or-none true = refl
or-none false = refl

-- the element at an index, whatever the default past the end is
pub one_item : {X : Type 0} (xs : List X) (i : ℕ) (u v : X) → i < length xs → get_or xs i u ≡ u → v ≡ get_or xs i v → v ≡ u
one_item [] i u v lt e h = absurd (omega (arith, lt))
one_item (x ∷ xs) zero u v lt e h = h ∙ e
one_item (x ∷ xs) (suc i) u v lt e h = one_item xs i u v (omega (arith, lt)) e h

pub any_default : {X : Type 0} (xs : List X) (i : ℕ) (d e : X) → i < length xs → get_or xs i d ≡ get_or xs i e
any_default [] i d e lt = absurd (omega (arith, lt))
any_default (x ∷ xs) zero d e lt = refl
any_default (x ∷ xs) (suc i) d e lt = any_default xs i d e (omega (arith, lt))

pub only_one : {X : Type 0} (x y : X) → Contains (x ∷ []) y → x ≡ y
only_one x y c = at c.0 c.1 c.2
  where
    at : (i : ℕ) → i < length (x ∷ []) → get_or (x ∷ []) i y ≡ y → x ≡ y
    at zero lt e = e
    at (suc i) lt e = absurd (omega (arith, lt))

pub none_in : {X : Type 0} (y : X) → Contains ([]) y → ⊥
none_in y c = let lt = c.1 in absurd (omega (arith, lt))

pub covered_added : (old new : List State) (i s : ℕ) (env : List (Var × Value)) → IsAdded old new i s env
    → (j t : ℕ) (d : Environment) → Covered old j t d → Covered new j t d
covered_added old new i s env a j t d c = ⊎_elim
    (λ e. subst (λ l. Covered l j t d) (sym e) c)
    (λ more. subst (λ l. Covered l j t d) (sym more.1) (covered_more old (more.0 ∷ []) j t d c))
    a

module _ (g : Flow) (f : FormulaOf) where
  pub grows_none : (most : ℕ) (old : List State) → Grows g f most old old [] []
  grows_none most old = record {
    rest = [];
    longer = sym (append-nil old);
    kept = λ z h. h;
    range = λ one c. absurd (none_in one c);
  }

  pub grows_added : (most : ℕ) (old mid new : List State) (i s : ℕ) (env : List (Var × Value)) → Grows g f most old mid [] [] → IsAdded mid new i s env
      → InRange g f most i s → Grows g f most old new [] []
  grows_added most old mid new i s env r a n = ⊎_elim
      (λ e. subst (λ l. Grows g f most old l [] []) (sym e) r)
      (λ more. record {
        rest = r.rest ++ more.0 ∷ [];
        longer = more.1 ∙ ap (λ l. l ++ more.0 ∷ []) r.longer ∙ append_assoc old r.rest (more.0 ∷ []);
        kept = λ z h. h;
        range = λ one c. ⊎_elim
            (λ here. r.range one here)
            (λ last.
            let is = only_one more.0 one last in
            subst (λ t. InRange g f most t.part t.node) is
            (subst (λ k. InRange g f most more.0.part k) (sym more.3) (subst (λ j. InRange g f most j s) (sym more.2) n)))
            (Contains-append_cases r.rest (more.0 ∷ []) one c);
      })
      a

  pub grows_with : (most : ℕ) (old new : List State) (found : List Witness) → Grows g f most old new [] [] → Grows g f most old new found found
  grows_with most old new found r = record { rest = r.rest; longer = r.longer; kept = λ z h. h; range = r.range }

  module _ {X : Type 0} (part_of node_of : X → ℕ) (env_of : X → Environment) where
    abbrev pub leads : Witness → X → Bool
    leads z u = has (forest_at g f (part_of u) (node_of u) (env_of u)) z

    -- a state was added for each of the first n items
    pub record Put (most : ℕ) (us : List X) (n : ℕ) (old new : List State) : Type 0 where
      pub there : (z : Witness) → list_any (of_state g f z) new ≡ (list_any (of_state g f z) old || list_any (leads z) (take n us))
      pub done : (k : ℕ) → k < n → (u : X) → k < length us → get_or us k u ≡ u → Covered new (part_of u) (node_of u) (env_of u)
      pub grows : Grows g f most old new [] []

    pub put_none : (most : ℕ) (us : List X) (old : List State) → Put most us 0 old old
    put_none most us old = record {
      there = λ z. sym (or-none (list_any (of_state g f z) old));
      done = λ k lt. absurd (omega (arith, lt));
      grows = grows_none most old;
    }

    pub put_more : (most : ℕ) (us : List X) (n : ℕ) (old mid new : List State) (v : X) (env : List (Var × Value))
        → n < length us → v ≡ get_or us n v → Put most us n old mid → total env ≡ env_of v
        → IsAdded mid new (part_of v) (node_of v) env → Covered new (part_of v) (node_of v) (total env)
        → InRange g f most (part_of v) (node_of v) → Put most us (n + 1) old new
    put_more most us n old mid new v env lt is p e a c r = record {
      there = λ z.
          added_there g f z mid new (part_of v) (node_of v) env a c
          ∙ (λ i. p.there z i || has (forest_at g f (part_of v) (node_of v) (e i)) z)
          ∙ or_assoc (list_any (of_state g f z) old) (list_any (leads z) (take n us)) (leads z v)
          ∙ (λ i. list_any (of_state g f z) old || (list_any (leads z) (take n us) || leads z (is i)))
          ∙ ap (λ b. list_any (of_state g f z) old || b) (sym (list_any_more (leads z) us n v lt));
      done = below_more (λ k. (u : X) → k < length us → get_or us k u ≡ u → Covered new (part_of u) (node_of u) (env_of u)) n
          (λ k lk u ku h. covered_added mid new (part_of v) (node_of v) env a (part_of u) (node_of u) (env_of u) (p.done k lk u ku h))
          (λ u ku h. subst (λ w. Covered new (part_of w) (node_of w) (env_of w)) (one_item us n u v ku h is)
          (subst (λ d. Covered new (part_of v) (node_of v) d) e c));
      grows = grows_added most old mid new (part_of v) (node_of v) env p.grows a r;
    }

    -- at the end
    pub put_there : (most : ℕ) (us : List X) (n : ℕ) (old new : List State) → length us ≤ n → Put most us n old new → (z : Witness)
        → list_any (of_state g f z) new ≡ (list_any (of_state g f z) old || list_any (leads z) us)
    put_there most us n old new le p z = p.there z ∙ ap (λ l. list_any (of_state g f z) old || list_any (leads z) l) (take_all n us le)

    pub put_done : (most : ℕ) (us : List X) (n : ℕ) (old new : List State) → length us ≤ n → Put most us n old new → (u : X) → Contains us u
        → Covered new (part_of u) (node_of u) (env_of u)
    put_done most us n old new le p u c = let lt = c.1 in p.done c.0 (omega (arith, lt, le)) u c.1 c.2

  -- what is new among the states is what a forest has
  pub adds_states : (old new : List State) (found ws : List Witness)
      → ((z : Witness) → list_any (of_state g f z) new ≡ (list_any (of_state g f z) old || has ws z)) → Adds g f old new found found ws
  adds_states old new found ws h z = ap (λ b. has found z || b) (h z) ∙ sym (or_assoc (has found z) (list_any (of_state g f z) old) (has ws z))
