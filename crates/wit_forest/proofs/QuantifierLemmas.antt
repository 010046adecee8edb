-- The forest of a quantifier, given any list of the values under which its part holds, ids aside.
use Rattle.std.proofs.Common.{◌≡◌, ℕ, ◌+◌, ◌<◌, Bool, true, false, ◌&&◌, ◌||◌, eqb, sym, ap, ◌∙◌, subst, arith, List}
use Rattle.std.specs.List.{filter, list_any}
use Rattle.cfg_build.specs.CfgGraph.Flow.{Flow, IsSound, count_of}
use Rattle.smpl_terms.specs.declared.var.Var.{Var}
use Rattle.smpl_terms.specs.declared.value.Value.{Value}
use Rattle.smpl_terms.specs.Vars.{same_var}
use Rattle.smpl_terms.specs.Values.{same}
use Rattle.smpl_terms.specs.Environments.{Environment, change}
use Rattle.smpl_terms.proofs.ValueLaws.{same-refl}
use Rattle.smpl_patch.specs.Patterns.{sure}
use Rattle.smpl_patch.specs.declared.witness.Witness.{Witness}
use Rattle.smpl_patch.specs.declared.witness.Witness.TheVariants.{Bind}
use Rattle.ctl_formula.specs.Bounds.{bound}
use Rattle.ctl_formula.specs.Tables.{at, plains}
use Rattle.ctl_formula.specs.Formulas.{FormulaOf}
use Rattle.ctl_fixpoint.specs.CtlHolds.Parts.{EachPattern}
use Rattle.ctl_fixpoint.specs.CtlHolds.BoundLaw.{SureStand}
use Rattle.ctl_fixpoint.specs.CtlHolds.Values.{values_of, is_among}
use Rattle.ctl_fixpoint.proofs.CtlHolds.BoundLemmas.{bound_law}
use Rattle.ctl_fixpoint.proofs.CtlHolds.TestLemmas.{and_left, and_right, and_both, same_bool, any_found, any_has}
use Rattle.wit_forest.specs.WitOrder.Same.{same_witness}
use Rattle.wit_forest.specs.WitOrder.Forests.{has}
use Rattle.wit_forest.proofs.WitOrder.WitnessLemmas.{same-Bind-Bind}
use Rattle.wit_forest.proofs.WitOrder.SameLaws.{witness-along, witness-refl}
use Rattle.wit_forest.specs.WitTrees.Forest.{is_hidden, bound_to}
use Rattle.wit_forest.specs.WitTrees.Graphs.{world_of}
use Rattle.wit_forest.proofs.WitTrees.AlikeLemmas.{holds_alike, forest_alike, value_alike}
use Rattle.wit_forest.proofs.WitTrees.ReachLemmas.{any-filter}
use Rattle.wit_forest.proofs.WitTrees.StepLemmas.{has-union_map}
use Rattle.wit_forest.specs.Gathered.{holds_at, forest_at, quantified}
use Rattle.wit_forest.proofs.ValueLemmas.{changed_own}

-- trees of the same values, over one forest
pub bind_same : (s : ℕ) (x : Var) (v u : Value) (ws : List Witness) → same v u ≡ true → same_witness (Bind s x v ws) (Bind s x u ws) ≡ true
bind_same s x v u ws h =
    let itself = sym (same-Bind-Bind s x u ws s x u ws) ∙ witness-refl (Bind s x u ws) in
    let rest = and_right (eqb s s) _ itself in
    same-Bind-Bind s x v ws s x u ws ∙ and_both (eqb s s) _ (and_left (eqb s s) _ itself) (and_both (same_var x x) _ (and_left (same_var x x) _ rest)
    (and_both (same v u) _ h (and_right (same u u) _ (and_right (same_var x x) _ rest))))

module _ (g : Flow) (f : FormulaOf) (x : Var) (j s : ℕ) (env : Environment) (z : Witness) where
  abbrev under : Value → List Witness
  under v = forest_at g f j s (change env x v)

  abbrev on : Value → Bool
  on v = holds_at g f (change env x v) j s

  abbrev pub tree_of : Bool → Value → Bool
  tree_of b v = has (bound_to (world_of f.decls f.tokens g) b s x v (under v)) z

  on_same : (v u : Value) → same v u ≡ true → on v ≡ on u
  on_same v u h =
      holds_alike f.decls f.tokens g (count_of g + 1) (at (plains f.nodes) j) s (change env x v) (change env x u) (value_alike env x v u h)

  under_same : (v u : Value) → same v u ≡ true → under v ≡ under u
  under_same v u h =
      forest_alike f.decls f.tokens g (at (plains f.nodes) j) s (change env x v) (change env x u) (value_alike env x v u h)

  tree_same : (b : Bool) (v u : Value) → same v u ≡ true → tree_of b v ≡ tree_of b u
  tree_same true v u h = ap (λ ws. has ws z) (under_same v u h)
  tree_same false v u h =
      ap (λ ws. same_witness (Bind s x v ws) z || false) (under_same v u h)
      ∙ ap (λ b. b || false) (witness-along (Bind s x v (under u)) (Bind s x u (under u)) (bind_same s x v u (under u) h) z)

  by_values : has (quantified g f x j s env) z ≡ list_any (λ v. on v && tree_of (is_hidden x) v) (values_of g)
  by_values =
      has-union_map (world_of f.decls f.tokens g) (λ v. bound_to (world_of f.decls f.tokens g) (is_hidden x) s x v (under v)) (filter on (values_of g)) z
      ∙ any-filter on (tree_of (is_hidden x)) (values_of g)

  module _ (ok : IsSound g) (lt : s < count_of g) (stand : EachPattern (SureStand f.decls f.tokens) (at (plains f.nodes) j))
      (b : bound (sure f.decls f.tokens) (at (plains f.nodes) j) x ≡ true)
      (us : List Value) (all : (v : Value) → list_any (λ u. same u v) us ≡ on v) where
    -- a value of the list is one of the graph, ids aside
    among : (u : Value) → on u ≡ true → is_among (values_of g) u ≡ true
    among u h =
        subst (λ w. is_among (values_of g) w ≡ true) (changed_own env x u)
        ((bound_law f.decls f.tokens g ok (count_of g + 1) (omega arith) (at (plains f.nodes) j) stand s lt (change env x u) x).0 b h)

    from_values : list_any (λ v. on v && tree_of (is_hidden x) v) (values_of g) ≡ true → list_any (tree_of (is_hidden x)) us ≡ true
    from_values h =
        let v = any_found (λ v. on v && tree_of (is_hidden x) v) (values_of g) h in
        let u = any_found (λ u. same u v.0) us (all v.0 ∙ and_left (on v.0) _ v.2) in
        any_has (tree_of (is_hidden x)) u.0 us u.1 (tree_same (is_hidden x) u.0 v.0 u.2 ∙ and_right (on v.0) _ v.2)

    to_values : list_any (tree_of (is_hidden x)) us ≡ true → list_any (λ v. on v && tree_of (is_hidden x) v) (values_of g) ≡ true
    to_values h =
        let u = any_found (tree_of (is_hidden x)) us h in
        let held : on u.0 ≡ true = sym (all u.0) ∙ any_has (λ w. same w u.0) u.0 us u.1 (same-refl u.0) in
        let v = any_found (λ v. same v u.0) (values_of g) (among u.0 held) in
        any_has (λ v. on v && tree_of (is_hidden x) v) v.0 (values_of g) v.1
        (and_both (on v.0) _ (on_same v.0 u.0 v.2 ∙ held) (tree_same (is_hidden x) v.0 u.0 v.2 ∙ u.2))

    -- what the forest of the quantifier has
    pub quantified_has : has (quantified g f x j s env) z ≡ list_any (tree_of (is_hidden x)) us
    quantified_has = by_values ∙ same_bool from_values to_values
