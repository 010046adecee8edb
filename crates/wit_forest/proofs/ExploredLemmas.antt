-- If all states are explored, the trees of each state's forest are found.
use Rattle.std.proofs.Common.{◌≡◌, ℕ, ◌+◌, ◌<◌, Bool, true, false, ◌||◌, refl, sym, ap, ◌∙◌, subst, List, [], ◌∷◌, Contains}
use Rattle.cfg_build.specs.CfgGraph.Flow.{Flow, IsSound, count_of}
use Rattle.smpl_terms.specs.Environments.{Environment, change, total}
use Rattle.smpl_patch.specs.declared.pattern.Pattern.{Pattern}
use Rattle.smpl_patch.specs.declared.witness.Witness.{Witness}
use Rattle.smpl_patch.specs.declared.witness.Witness.TheVariants.{Bind}
use Rattle.smpl_terms.proofs.ValueLaws.{same-along}
use Rattle.ctl_formula.specs.Plain.{Atom}
use Rattle.ctl_formula.specs.Tables.{at, plains}
use Rattle.ctl_formula.specs.Formulas.{FormulaOf, IsFormula}
use Rattle.ctl_formula.specs.declared.node.Node.{Node}
use Rattle.ctl_formula.specs.declared.node.Node.TheVariants as node
use Rattle.ctl_fixpoint.proofs.CtlHolds.TestLemmas.{any_found, any_has}
use Rattle.wit_forest.specs.WitOrder.Same.{same_witness}
use Rattle.wit_forest.specs.WitOrder.Forests.{has}
use Rattle.wit_forest.proofs.WitOrder.SameLaws.{witness-along, witness-sym}
use Rattle.wit_forest.specs.WitTrees.Alike.{Alike}
use Rattle.wit_forest.proofs.WitTrees.AlikeLemmas.{holds_alike, forest_alike, change_alike}
use Rattle.wit_forest.specs.WitSteps.Steps.{kids}
use Rattle.wit_forest.specs.WitSteps.Touches.{own_touches}
use Rattle.wit_forest.proofs.WitSteps.KidLemmas.{kid_step}
use Rattle.wit_forest.specs.declared.states.State.{State}
use Rattle.wit_forest.specs.Gathered.{Covered, node_at, forest_at, holds_at, InRange, IsExplored}
use Rattle.wit_forest.proofs.NodeLemmas.{node_is}
use Rattle.wit_forest.proofs.CompleteLemmas.{Closed, complete}

or-no : (b : Bool) → (b || false) ≡ b
or-no true = refl
or-no false = refl

alike_joined : (c d e : Environment) → Alike c d → Alike d e → Alike c e
alike_joined c d e a b x = sym (same-along (d x) (e x) (b x) (c x)) ∙ a x

pub covered_alike : (states : List State) (i s : ℕ) (d e : Environment) → Alike d e → Covered states i s d → Covered states i s e
covered_alike states i s d e a c = (c.0, c.1, c.2, c.3, alike_joined (total c.0.env) d e c.4 a)

module _ (g : Flow) (f : FormulaOf) (ok : IsSound g) (s : ℕ) (lt : s < count_of g) (d e : Environment) (a : Alike d e) (z : Witness) where
  atom_alike : (p : Pattern) → has (own_touches f.decls f.tokens g (node.Atom p) s d) z ≡ has (own_touches f.decls f.tokens g (node.Atom p) s e) z
  atom_alike p =
      sym (or-no _) ∙ sym (kid_step f.decls f.tokens g ok (Atom p ∷ []) d z (node.Atom p) refl 0 s lt refl)
      ∙ ap (λ ws. has ws z) (forest_alike f.decls f.tokens g (Atom p) s d e a)
      ∙ kid_step f.decls f.tokens g ok (Atom p ∷ []) e z (node.Atom p) refl 0 s lt refl ∙ or-no _

  own_alike : (n : Node) → has (own_touches f.decls f.tokens g n s d) z ≡ has (own_touches f.decls f.tokens g n s e) z
  own_alike node.True = refl
  own_alike (node.Atom p) = atom_alike p
  own_alike node.EarlyExit = refl
  own_alike (node.BraceOpen p v) = atom_alike p
  own_alike (node.BraceClose p v) = atom_alike p
  own_alike (node.Inside b) = refl
  own_alike (node.Outside b) = refl
  own_alike (node.Not i) = refl
  own_alike (node.And i j) = refl
  own_alike (node.Or i j) = refl
  own_alike (node.AX i) = refl
  own_alike (node.EX i) = refl
  own_alike (node.AU i j) = refl
  own_alike (node.EU i j) = refl
  own_alike (node.After i) = refl
  own_alike (node.InBranch v i) = refl
  own_alike (node.Exists v i) = refl

module _ (g : Flow) (f : FormulaOf) (ok : IsSound g) (states : List State) (found : List Witness) where
  explored_alike : (i s : ℕ) (d e : Environment) → s < count_of g → Alike d e → IsExplored g f states found i s d → IsExplored g f states found i s e
  explored_alike i s d e lt a ex = record {
    own = λ z h. ex.own z (own_alike g f ok s lt d e a z (node_at g f i) ∙ h);
    kid = λ k c.
        let same : holds_at g f d ≡ holds_at g f e =
        λ n j m. holds_alike f.decls f.tokens g (count_of g + 1) (at (plains f.nodes) j) m d e a n in
        covered_alike states k.0 k.1 d e a (ex.kid k (subst (λ h. Contains (kids g h (node_at g f i) i s) k) (sym same) c));
    hidden = λ x j q b v m h.
        let more = change_alike d e x v a in
        covered_alike states j s (change d x v) (change e x v) more (ex.hidden x j q b v m
        (holds_alike f.decls f.tokens g (count_of g + 1) (at (plains f.nodes) j) s (change d x v) (change e x v) more ∙ h));
    shown = λ x j q b v m h.
        let more = change_alike d e x v a in
        ap (λ ws. has found (Bind s x v ws)) (sym (forest_alike f.decls f.tokens g (at (plains f.nodes) j) s (change d x v) (change e x v) more))
        ∙ ex.shown x j q b v m
        (holds_alike f.decls f.tokens g (count_of g + 1) (at (plains f.nodes) j) s (change d x v) (change e x v) more ∙ h);
  }

  module _ (formula : IsFormula f) (most : ℕ)
      (range : (one : State) → Contains states one → InRange g f most one.part one.node)
      (done : (one : State) → Contains states one → IsExplored g f states found one.part one.node (total one.env)) where
    range_at : (i s : ℕ) (env : Environment) → Covered states i s env → InRange g f most i s
    range_at i s env c =
        subst (λ k. InRange g f most i k) c.3 (subst (λ j. InRange g f most j c.0.node) c.2 (range c.0 c.1))

    explored_at : (i s : ℕ) (env : Environment) → Covered states i s env → IsExplored g f states found i s env
    explored_at i s env c =
        explored_alike i s (total c.0.env) env (range_at i s env c).node c.4
        (subst (λ k. IsExplored g f states found i k (total c.0.env)) c.3
        (subst (λ j. IsExplored g f states found j c.0.node (total c.0.env)) c.2 (done c.0 c.1)))

    -- a tree that is the same as a found one is found
    found_same : (w z : Witness) → has found w ≡ true → same_witness w z ≡ true → has found z ≡ true
    found_same w z h e =
        let u = any_found (λ u. same_witness u w) found h in
        let turned : same_witness z w ≡ true = sym (witness-sym w z) ∙ e in
        any_has (λ u. same_witness u z) u.0 found u.1
        (witness-sym u.0 z ∙ sym (witness-along w z e u.0) ∙ witness-sym w u.0 ∙ u.2)

    all_closed : (z : Witness) → Closed f.decls f.tokens g (plains f.nodes) (node_at g f) z (has found z) (Covered states)
    all_closed z = record {
      inside = λ i s env c. (range_at i s env c).node;
      stands = λ i s env c. (node_is f.nodes formula.in_order i (range_at i s env c).within).0;
      low = λ i s env c. (node_is f.nodes formula.in_order i (range_at i s env c).within).1;
      own = λ i s env c. (explored_at i s env c).own z;
      kid = λ i s env c. (explored_at i s env c).kid;
      hidden = λ i s env c. (explored_at i s env c).hidden;
      shown = λ i s env c x j q b v m h e.
          found_same (Bind s x v (forest_at g f j s (change env x v))) z ((explored_at i s env c).shown x j q b v m h) e;
    }

    -- the trees of the forest of each covered part are found
    pub covered_found : (i s : ℕ) (env : Environment) → Covered states i s env → (z : Witness) → has (forest_at g f i s env) z ≡ true → has found z ≡ true
    covered_found i s env c z h =
        complete f.decls f.tokens g (plains f.nodes) (node_at g f) z (has found z) ok (Covered states) (all_closed z) i s env c h
