-- A loop over values that adds a tree for each value.
use Rattle.std.proofs.Common.{◌≡◌, ℕ, zero, suc, ◌+◌, ◌<◌, ◌≤◌, ⊎_elim, Bool, true, false, ◌&&◌, ◌||◌, eqb, sym, ap, ◌∙◌, subst}
use Rattle.std.proofs.Common.{List, [], ◌∷◌, length, get_or, take, Contains}
use Rattle.std.proofs.Math.Bool.{or_assoc}
use Rattle.std.proofs.lemmas.List.{take_all}
use Rattle.std.proofs.lemmas.List.Folds.{list_any_more}
use Rattle.std.specs.List.{list_any}
use Rattle.cfg_build.specs.CfgGraph.Flow.{Flow, IsSound, count_of}
use Rattle.smpl_terms.specs.declared.var.Var.{Var}
use Rattle.smpl_terms.specs.declared.value.Value.{Value}
use Rattle.smpl_terms.specs.Values.{same}
use Rattle.smpl_terms.specs.Vars.{same_var}
use Rattle.smpl_terms.specs.Environments.{Environment, change}
use Rattle.smpl_patch.specs.Patterns.{sure}
use Rattle.smpl_patch.specs.declared.witness.Witness.{Witness}
use Rattle.smpl_patch.specs.declared.witness.Witness.TheVariants.{Bind}
use Rattle.ctl_formula.specs.Bounds.{bound}
use Rattle.ctl_formula.specs.Tables.{at, plains}
use Rattle.ctl_formula.specs.Formulas.{FormulaOf}
use Rattle.ctl_fixpoint.specs.CtlHolds.Parts.{EachPattern}
use Rattle.ctl_fixpoint.specs.CtlHolds.BoundLaw.{SureStand}
use Rattle.ctl_fixpoint.proofs.CtlHolds.TestLemmas.{and_left, and_right, and_both, any_has, or_left, or_right, or_cases}
use Rattle.wit_forest.specs.WitOrder.Same.{same_witness, same_forest}
use Rattle.wit_forest.specs.WitOrder.Sizes.{forest_size}
use Rattle.wit_forest.specs.WitOrder.Forests.{has}
use Rattle.wit_forest.proofs.WitOrder.WitnessLemmas.{same-Bind-Bind}
use Rattle.wit_forest.proofs.WitOrder.SameLaws.{witness-along, witness-refl}
use Rattle.wit_forest.specs.WitTrees.Forest.{is_hidden}
use Rattle.wit_forest.specs.Gathered.{forest_at, holds_at, quantified, HasTooMany, IsShownDone}
use Rattle.wit_forest.proofs.DoneLemmas.{shown_done}
use Rattle.wit_forest.proofs.LargeLemmas.{large_bind, large_more, one_large}
use Rattle.wit_forest.proofs.LoopLemmas.{or-none}
use Rattle.wit_forest.proofs.QuantifierLemmas.{tree_of, quantified_has}

-- trees over the same forests
over_same : (s : ℕ) (x : Var) (v : Value) (us ws : List Witness) → same_forest us ws ≡ true → same_witness (Bind s x v us) (Bind s x v ws) ≡ true
over_same s x v us ws h =
    let itself = sym (same-Bind-Bind s x v us s x v us) ∙ witness-refl (Bind s x v us) in
    let rest = and_right (eqb s s) (same_var x x && (same v v && same_forest us us)) itself in
    let last = and_right (same_var x x) (same v v && same_forest us us) rest in
    same-Bind-Bind s x v us s x v ws
    ∙ and_both (eqb s s) (same_var x x && (same v v && same_forest us ws)) (and_left (eqb s s) (same_var x x && (same v v && same_forest us us)) itself)
    (and_both (same_var x x) (same v v && same_forest us ws) (and_left (same_var x x) (same v v && same_forest us us) rest)
    (and_both (same v v) (same_forest us ws) (and_left (same v v) (same_forest us us) last) h))

-- what holds for some of the first holds for some of all
any_take : {X : Type 0} (q : X → Bool) (xs : List X) (n : ℕ) → list_any q (take n xs) ≡ true → list_any q xs ≡ true
any_take q xs zero h = absurd cc
any_take q [] (suc n) h = h
any_take q (y ∷ ys) (suc n) h = ⊎_elim
    (λ here. or_left (q y) _ here)
    (λ there. or_right (q y) _ (any_take q ys n there))
    (or_cases (q y) _ h)

module _ (g : Flow) (f : FormulaOf) (x : Var) (j s : ℕ) (env : Environment) where
  abbrev pub tree : Value → Witness
  tree v = Bind s x v (forest_at g f j s (change env x v))

  -- a tree was added for each of the first n values
  abbrev pub Shown : List Value → ℕ → List Witness → List Witness → Type 0
  Shown us n old new = (z : Witness) → has new z ≡ (has old z || list_any (λ v. same_witness (tree v) z) (take n us))

  pub shown_none : (us : List Value) (old : List Witness) → Shown us 0 old old
  shown_none us old z = sym (or-none (has old z))

  -- with one more tree, over the forest that was gathered under the value
  shown_step : (us : List Value) (n : ℕ) (old mid : List Witness) (v u : Value) (y : Var) (inner : Environment) (under : List Witness)
      → n < length us → v ≡ get_or us n v → u ≡ v → y ≡ x → inner ≡ change env x v → same_forest under (forest_at g f j s inner) ≡ true
      → Shown us n old mid → (z : Witness)
      → (has mid z || same_witness (Bind s y u under) z) ≡ (has old z || list_any (λ w. same_witness (tree w) z) (take (n + 1) us))
  shown_step us n old mid v u y inner under lt is a b e h p z =
      let here : same_forest under (forest_at g f j s (change env x v)) ≡ true = subst (λ d. same_forest under (forest_at g f j s d) ≡ true) e h in
      (λ i. has mid z || same_witness (Bind s (b i) (a i) under) z)
      ∙ ap (λ c. has mid z || c) (witness-along (Bind s x v under) (tree v) (over_same s x v under _ here) z)
      ∙ ap (λ c. c || same_witness (tree v) z) (p z)
      ∙ or_assoc (has old z) (list_any (λ w. same_witness (tree w) z) (take n us)) (same_witness (tree v) z)
      ∙ (λ i. has old z || (list_any (λ w. same_witness (tree w) z) (take n us) || same_witness (tree (is i)) z))
      ∙ ap (λ c. has old z || c) (sym (list_any_more (λ w. same_witness (tree w) z) us n v lt))

  pub shown_more : (us : List Value) (n : ℕ) (old mid new : List Witness) (v u : Value) (y : Var) (inner : Environment) (under : List Witness)
      → n < length us → v ≡ get_or us n v → u ≡ v → y ≡ x → inner ≡ change env x v → same_forest under (forest_at g f j s inner) ≡ true
      → ((z : Witness) → has new z ≡ (has mid z || same_witness (Bind s y u under) z)) → Shown us n old mid → Shown us (n + 1) old new
  shown_more us n old mid new v u y inner under lt is a b e h k p z =
      k z ∙ shown_step us n old mid v u y inner under lt is a b e h p z

  module _ (ok : IsSound g) (lt : s < count_of g) (stand : EachPattern (SureStand f.decls f.tokens) (at (plains f.nodes) j))
      (b : bound (sure f.decls f.tokens) (at (plains f.nodes) j) x ≡ true)
      (us : List Value) (all : (v : Value) → list_any (λ u. same u v) us ≡ holds_at g f (change env x v) j s)
      (shown : is_hidden x ≡ false) where
    -- what the forest of the quantifier has, given the trees
    by_trees : (z : Witness) → list_any (λ v. same_witness (tree v) z) us ≡ has (quantified g f x j s env) z
    by_trees z =
        let one : (λ v. same_witness (tree v) z) ≡ tree_of g f x j s env z false = λ i v. sym (or-none (same_witness (tree v) z)) i in
        ap (λ t. list_any t us) one ∙ ap (λ h. list_any (tree_of g f x j s env z h) us) (sym shown) ∙ sym (quantified_has g f x j s env z ok lt stand b us all)

    pub shown_there : (n : ℕ) (old new : List Witness) → length us ≤ n → Shown us n old new
        → (z : Witness) → has new z ≡ (has old z || has (quantified g f x j s env) z)
    shown_there n old new le p z =
        p z ∙ ap (λ l. has old z || list_any (λ v. same_witness (tree v) z) l) (take_all n us le) ∙ ap (λ c. has old z || c) (by_trees z)

    pub shown_all : (n : ℕ) (old new : List Witness) → length us ≤ n → Shown us n old new → IsShownDone g f new x j s env
    shown_all n old new le p = shown_done g f x j s env us all new (λ u c.
        p (tree u) ∙ ap (λ l. has old (tree u) || list_any (λ v. same_witness (tree v) (tree u)) l) (take_all n us le)
        ∙ or_right (has old (tree u)) _ (any_has (λ v. same_witness (tree v) (tree u)) u us c (witness-refl (tree u))))

    -- the forest under one value is already too large
    pub large_shown : (old : List Witness) (v : Value) → Contains us v → (inner : Environment) → inner ≡ change env x v
        → 1000000 < forest_size (forest_at g f j s inner) → HasTooMany f.decls (λ z. has old z || has (quantified g f x j s env) z)
    large_shown old v c inner e h =
        let here : 1000000 < forest_size (forest_at g f j s (change env x v)) = subst (λ d. 1000000 < forest_size (forest_at g f j s d)) e h in
        one_large f.decls (λ z. has old z || has (quantified g f x j s env) z) (tree v)
        (λ z k. or_right (has old z) _ (sym (by_trees z) ∙ any_has (λ w. same_witness (tree w) z) v us c k)) (large_bind s x v _ here)

    -- the trees so far are too many, with one more
    pub large_so_far : (n : ℕ) (old mid : List Witness) (v u : Value) (y : Var) (inner : Environment) (under : List Witness)
        → n < length us → v ≡ get_or us n v → u ≡ v → y ≡ x → inner ≡ change env x v → same_forest under (forest_at g f j s inner) ≡ true
        → Shown us n old mid → HasTooMany f.decls (λ z. has mid z || same_witness (Bind s y u under) z)
        → HasTooMany f.decls (λ z. has old z || has (quantified g f x j s env) z)
    large_so_far n old mid v u y inner under lt is a b e h p l =
        large_more f.decls (λ z. has mid z || same_witness (Bind s y u under) z) (λ z. has old z || has (quantified g f x j s env) z)
        (λ z k. ⊎_elim
        (λ before. or_left (has old z) _ before)
        (λ added. or_right (has old z) _ (sym (by_trees z) ∙ any_take (λ w. same_witness (tree w) z) us (n + 1) added))
        (or_cases (has old z) _ (sym (shown_step us n old mid v u y inner under lt is a b e h p z) ∙ k)))
        l
