-- One visit of a part at a node: what it adds, and that the part is explored afterwards.
use Rattle.std.proofs.Common.{◌≡◌, ℕ, ◌<◌, ⊎_elim, Bool, true, false, ◌||◌, refl, sym, ap, ◌∙◌, subst, List, [], Contains}
use Rattle.std.proofs.lemmas.List.{append-nil}
use Rattle.std.specs.List.{list_any}
use Rattle.cfg_build.specs.CfgGraph.Flow.{Flow, IsSound, count_of}
use Rattle.smpl_terms.specs.declared.var.Var.{Var}
use Rattle.smpl_terms.specs.Environments.{Environment}
use Rattle.smpl_patch.specs.declared.witness.Witness.{Witness}
use Rattle.ctl_formula.specs.Plain.{Exists}
use Rattle.ctl_formula.specs.Tables.{at, plains, plain_of}
use Rattle.ctl_formula.specs.Formulas.{FormulaOf}
use Rattle.ctl_formula.specs.declared.node.Node.{Node}
use Rattle.ctl_formula.specs.declared.node.Node.TheVariants as node
use Rattle.ctl_fixpoint.proofs.CtlHolds.TestLemmas.{or_cases, or_left, or_right}
use Rattle.wit_forest.specs.WitOrder.Forests.{has}
use Rattle.wit_forest.specs.WitTrees.Forest.{is_hidden}
use Rattle.wit_forest.specs.WitTrees.Graphs.{forest_of}
use Rattle.wit_forest.specs.WitSteps.Steps.{kids, is_quantifier}
use Rattle.wit_forest.specs.WitSteps.Touches.{own_touches}
use Rattle.wit_forest.proofs.WitSteps.KidLemmas.{kid_step}
use Rattle.wit_forest.specs.declared.states.State.{State}
use Rattle.wit_forest.specs.Gathered.{Covered, node_at, forest_at, holds_at, quantified, IsHiddenDone, IsShownDone, IsExplored}
use Rattle.wit_forest.specs.Gathered.{Adds, Grows, HasTooMany, is_there}
use Rattle.wit_forest.proofs.AddLemmas.{of_state}
use Rattle.wit_forest.proofs.LargeLemmas.{large_more}
use Rattle.wit_forest.proofs.LoopLemmas.{none_in}

or_swap : (a b c d : Bool) → ((a || b) || (c || d)) ≡ ((a || c) || (b || d))
or_swap true b c d = refl
or_swap false true true d = refl
or_swap false true false d = refl
or_swap false false c d = refl

or_turned : (a b c : Bool) → ((a || b) || c) ≡ ((a || c) || b)
or_turned true b c = refl
or_turned false true true = refl
or_turned false true false = refl
or_turned false false true = refl
or_turned false false false = refl

module _ (g : Flow) (f : FormulaOf) (i s : ℕ) (env : Environment) where
  -- a quantifier
  pub quantifier_adds : (old new : List State) (found trees : List Witness) (x : Var) (j : ℕ)
      → at (plains f.nodes) i ≡ Exists x (at (plains f.nodes) j) → Adds g f old new found trees (quantified g f x j s env)
      → Adds g f old new found trees (forest_at g f i s env)
  quantifier_adds old new found trees x j e a z =
      a z ∙ ap (λ h. is_there g f old found z || has (forest_of f.decls f.tokens g h s env) z) (sym e)

  pub quantifier_explored : (new : List State) (trees : List Witness) (x : Var) (j : ℕ) → node_at g f i ≡ node.Exists x j
      → (is_hidden x ≡ true → IsHiddenDone g f new x j s env) → (is_hidden x ≡ false → IsShownDone g f trees x j s env)
      → IsExplored g f new trees i s env
  quantifier_explored new trees x j e hid show = record {
    own = λ z h.
        let none : false ≡ true = subst (λ n. has (own_touches f.decls f.tokens g n s env) z ≡ true) e h in
        absurd cc;
    kid = λ k c. absurd (none_in k (subst (λ n. Contains (kids g (holds_at g f env) n i s) k) e c));
    hidden = λ y l q b.
        let same : node.Exists x j ≡ node.Exists y l = sym e ∙ q in
        let of_var : x ≡ y = cc in
        let of_part : j ≡ l = cc in
        subst (λ m. IsHiddenDone g f new y m s env) of_part (subst (λ v. IsHiddenDone g f new v j s env) of_var (hid (ap is_hidden of_var ∙ b)));
    shown = λ y l q b.
        let same : node.Exists x j ≡ node.Exists y l = sym e ∙ q in
        let of_var : x ≡ y = cc in
        let of_part : j ≡ l = cc in
        subst (λ m. IsShownDone g f trees y m s env) of_part (subst (λ v. IsShownDone g f trees v j s env) of_var (show (ap is_hidden of_var ∙ b)));
  }

  pub quantifier_large : (old : List State) (found : List Witness) (x : Var) (j : ℕ) → at (plains f.nodes) i ≡ Exists x (at (plains f.nodes) j)
      → HasTooMany f.decls (λ z. is_there g f old found z || has (quantified g f x j s env) z)
      → HasTooMany f.decls (λ z. is_there g f old found z || has (forest_at g f i s env) z)
  quantifier_large old found x j e l =
      subst (λ h. HasTooMany f.decls (λ z. is_there g f old found z || has (forest_of f.decls f.tokens g h s env) z)) (sym e) l

  -- trees are added for a quantifier, and no state
  pub shown_adds : (old : List State) (found trees ws : List Witness)
      → ((z : Witness) → has trees z ≡ (has found z || has ws z)) → Adds g f old old found trees ws
  shown_adds old found trees ws h z =
      ap (λ b. b || list_any (of_state g f z) old) (h z) ∙ or_turned (has found z) (has ws z) (list_any (of_state g f z) old)

  pub shown_grows : (most : ℕ) (old : List State) (found trees ws : List Witness) → ((z : Witness) → has trees z ≡ (has found z || has ws z))
      → Grows g f most old old found trees
  shown_grows most old found trees ws h = record {
    rest = [];
    longer = sym (append-nil old);
    kept = λ z k. h z ∙ or_left (has found z) _ k;
    range = λ one c. absurd (none_in one c);
  }

  -- a tree that is found is there
  there : (old : List State) (found : List Witness) (z : Witness) → has found z ≡ true → is_there g f old found z ≡ true
  there old found z h = or_left (has found z) (list_any (of_state g f z) old) h

  pub shown_large : (old : List State) (found ws : List Witness) → HasTooMany f.decls (λ z. has found z || has ws z)
      → HasTooMany f.decls (λ z. is_there g f old found z || has ws z)
  shown_large old found ws l =
      large_more f.decls (λ z. has found z || has ws z) (λ z. is_there g f old found z || has ws z)
      (λ z k. ⊎_elim
      (λ before. or_left (is_there g f old found z) (has ws z) (there old found z before))
      (λ added. or_right (is_there g f old found z) (has ws z) added)
      (or_cases (has found z) _ k))
      l

  -- what a part touches makes the forest too large
  pub own_large : (x : Node) → at (plains f.nodes) i ≡ plain_of (plains f.nodes) x → is_quantifier x ≡ false → IsSound g → s < count_of g
      → (old : List State) (found : List Witness) → HasTooMany f.decls (λ z. has found z || has (own_touches f.decls f.tokens g x s env) z)
      → HasTooMany f.decls (λ z. is_there g f old found z || has (forest_at g f i s env) z)
  own_large x shape q ok lt old found l =
      large_more f.decls (λ z. has found z || has (own_touches f.decls f.tokens g x s env) z) (λ z. is_there g f old found z || has (forest_at g f i s env) z)
      (λ z k. ⊎_elim
      (λ before. or_left (is_there g f old found z) (has (forest_at g f i s env) z) (there old found z before))
      (λ added. or_right (is_there g f old found z) (has (forest_at g f i s env) z)
      (ap (λ y. has (forest_of f.decls f.tokens g y s env) z) shape ∙ kid_step f.decls f.tokens g ok (plains f.nodes) env z x q i s lt shape
      ∙ or_left (has (own_touches f.decls f.tokens g x s env) z) _ added))
      (or_cases (has found z) _ k))
      l

  -- any other part
  module _ (x : Node) (is : node_at g f i ≡ x) (shape : at (plains f.nodes) i ≡ plain_of (plains f.nodes) x) (q : is_quantifier x ≡ false)
      (old new : List State) (found trees : List Witness)
      (has_own : (z : Witness) → has trees z ≡ (has found z || has (own_touches f.decls f.tokens g x s env) z)) where
    abbrev of_kid : Witness → ℕ × ℕ → Bool
    of_kid z k = has (forest_at g f k.0 k.1 env) z

    pub step_adds : IsSound g → s < count_of g
        → ((z : Witness) → list_any (of_state g f z) new
        ≡ (list_any (of_state g f z) old || list_any (of_kid z) (kids g (holds_at g f env) (node_at g f i) i s)))
        → Adds g f old new found trees (forest_at g f i s env)
    step_adds ok lt h z =
        let own_has = has (own_touches f.decls f.tokens g x s env) z in
        let any_kid = list_any (of_kid z) (kids g (holds_at g f env) x i s) in
        (λ n. has_own z n || (h z ∙ ap (λ y. list_any (of_state g f z) old || list_any (of_kid z) (kids g (holds_at g f env) y i s)) is) n)
        ∙ or_swap (has found z) own_has (list_any (of_state g f z) old) any_kid
        ∙ ap (λ b. is_there g f old found z || b)
        (sym (ap (λ y. has (forest_of f.decls f.tokens g y s env) z) shape ∙ kid_step f.decls f.tokens g ok (plains f.nodes) env z x q i s lt shape))

    pub step_grows : (most : ℕ) → Grows g f most old new trees trees → Grows g f most old new found trees
    step_grows most r = record {
      rest = r.rest;
      longer = r.longer;
      kept = λ z k. has_own z ∙ or_left (has found z) _ k;
      range = r.range;
    }

    no_quantifier : (y : Var) (l : ℕ) → node_at g f i ≡ node.Exists y l → ⊥
    no_quantifier y l e = let clash : false ≡ true = sym q ∙ ap is_quantifier (sym is ∙ e) in absurd cc

    pub step_explored : ((k : ℕ × ℕ) → Contains (kids g (holds_at g f env) (node_at g f i) i s) k → Covered new k.0 k.1 env)
        → IsExplored g f new trees i s env
    step_explored c = record {
      own = λ z h. has_own z ∙ or_right (has found z) _ (subst (λ n. has (own_touches f.decls f.tokens g n s env) z ≡ true) is h);
      kid = c;
      hidden = λ y l e. absurd (no_quantifier y l e);
      shown = λ y l e. absurd (no_quantifier y l e);
    }
