-- A variable that a formula binds has a value of the graph: by induction on the formula, both polarities together.
use Rattle.std.proofs.Common.{◌≡◌, ℕ, suc, zero, ◌<◌, Bool, true, false, ◌&&◌, ◌||◌, not, cond, refl, sym, ap, ◌∙◌, subst}
use Rattle.std.proofs.Common.{arith, List, [], ◌∷◌, length, map, Option, None, Some, slice_get, ◌⊎◌, ⊎_elim, Contains}
use Rattle.std.proofs.lemmas.List.Elements.{Contains-append_right}
use Rattle.std.specs.List.{list_any, list_all}
use Rattle.cfg_build.specs.declared.cfg_graph.label.NodeLabel.{NodeLabel}
use Rattle.cfg_build.specs.CfgGraph.Values.{terms_of, places_of}
use Rattle.cfg_build.specs.CfgGraph.Flow.{Flow, IsSound, count_of, succ_of, past_of, down_of}
use Rattle.cfg_build.proofs.CfgGraph.ValueLemmas.{label-place}
use Rattle.smpl_terms.specs.declared.var.Var.{Var}
use Rattle.smpl_terms.specs.declared.value.Value.{Value}
use Rattle.smpl_terms.specs.declared.value.Value.TheVariants.{Term, Place}
use Rattle.smpl_terms.specs.Vars.{same_var}
use Rattle.smpl_terms.specs.Environments.{Environment, change}
use Rattle.smpl_terms.proofs.VarLaws.{same_var-sym}
use Rattle.smpl_patch.specs.declared.pattern.VarDecl.{VarDecl}
use Rattle.smpl_patch.specs.declared.pattern.PatToken.{PatToken}
use Rattle.smpl_patch.specs.Patterns.{sure}
use Rattle.ctl_formula.specs.Plain.{Plain, True, Atom, EarlyExit, BraceOpen, BraceClose, Inside, Outside, Not, And, Or, AX, EX, AU}
use Rattle.ctl_formula.specs.Plain.{EU, After, InBranch, Exists}
use Rattle.ctl_formula.specs.Bounds.{bound, bound_not}
use Rattle.ctl_fixpoint.specs.CtlHolds.Values.{values_of, is_among}
use Rattle.ctl_fixpoint.specs.CtlHolds.Parts.{EachPattern}
use Rattle.ctl_fixpoint.specs.CtlHolds.Holding.{is_open, is_close, Holds}
use Rattle.ctl_fixpoint.specs.CtlHolds.Rounds.{passes, passes_there, rounds, holds}
use Rattle.ctl_fixpoint.specs.CtlHolds.BoundLaw.{SureStand, HasValues}
use Rattle.ctl_fixpoint.proofs.CtlHolds.TestLemmas.{or_cases, and_left, and_right, or_false, and_false, true_or_false, not_both, not_true}
use Rattle.ctl_fixpoint.proofs.CtlHolds.TestLemmas.{not_false, Contains-map, any_found, any_has, all_has, all_lacks, any_lacks}
use Rattle.ctl_fixpoint.proofs.CtlHolds.GraphLemmas.{node_after, first_after, past_node, down_node}
use Rattle.ctl_fixpoint.proofs.CtlHolds.AtomLemmas.{atom-among, block-among, brace-among}
use Rattle.ctl_fixpoint.proofs.CtlHolds.HoldLemmas.{holds_decides}

pub there_found : (x : ℕ → Bool) (o : Option ℕ) → passes_there x o ≡ true → (k : ℕ) × (o ≡ Some k) × (x k ≡ true)
there_found x None h = not_both false h refl
there_found x (Some k) h = (k, refl, h)

-- another variable keeps its value
pub other-value : (env : Environment) (y : Var) (v : Value) (x : Var) → not (same_var y x) ≡ true → change env y v x ≡ env x
other-value env y v x h = ap (λ b. cond b v (env x)) (same_var-sym x y ∙ not_true (same_var y x) h)

pub some_label : (ls : List NodeLabel) (s : ℕ) → s < length ls → (l : NodeLabel) × (slice_get ls s ≡ Some l)
some_label [] s lt = absurd (omega (arith, lt))
some_label (l ∷ ls) zero lt = (l, refl)
some_label (l ∷ ls) (suc s) lt = some_label ls s (omega (arith, lt))

module _ (g : Flow) (ok : IsSound g) where
  -- where an until holds, its end holds at some node
  until_end : (every : Bool) (p q : ℕ → Bool) (m s : ℕ) → s < count_of g → rounds g every p q m s ≡ true
      → (n : ℕ) × (n < count_of g) × (q n ≡ true)
  until_end every p q zero s lt h = not_both false h refl
  until_end true p q (suc m) s lt h = ⊎_elim
      (λ here. (s, lt, here))
      (λ there.
      let k = first_after g ok s lt in
      until_end true p q m k.0 (node_after g ok s k.0 lt k.1)
      (all_has (rounds g true p q m) k.0 (succ_of g s) k.1 (and_right (p s) _ there)))
      (or_cases (q s) _ h)
  until_end false p q (suc m) s lt h = ⊎_elim
      (λ here. (s, lt, here))
      (λ there.
      let k = any_found (rounds g false p q m) (succ_of g s) (and_right (p s) _ there) in
      until_end false p q m k.0 (node_after g ok s k.0 lt k.1) k.2)
      (or_cases (q s) _ h)

  -- where an until doesn't hold, its end doesn't hold here
  until_not : (every : Bool) (p q : ℕ → Bool) (m s : ℕ) → 0 < m → rounds g every p q m s ≡ false → q s ≡ false
  until_not every p q zero s pos h = absurd (omega (arith, pos))
  until_not every p q (suc m) s pos h = (or_false (q s) _ h).0

  -- the place of a label's brace is a value
  some_value : (s : ℕ) → s < count_of g → (v : Value) × Contains (values_of g) v
  some_value s lt =
      let l = some_label g.labels s lt in
      let c = label-place g s l.0 l.1 in (
        Place l.0.brace,
        Contains-append_right (map Term (terms_of g)) (map Place (places_of g)) (Place l.0.brace)
            (Contains-map Place l.0.brace (places_of g) c.0 c.1 c.2),
      )

module _ (decls : List VarDecl) (tokens : List PatToken) (g : Flow) (ok : IsSound g) (m : ℕ) (pos : 0 < m) where
  abbrev Among : Environment → Var → Type 0
  Among env x = is_among (values_of g) (env x) ≡ true

  pub bound_law : (f : Plain) → EachPattern (SureStand decls tokens) f → (s : ℕ) → s < count_of g
      → (env : Environment) (x : Var)
      → (bound (sure decls tokens) f x ≡ true → holds decls tokens g m f s env ≡ true → Among env x)
      × (bound_not (sure decls tokens) f x ≡ true → holds decls tokens g m f s env ≡ false → Among env x)
  bound_law True e s lt env x = (λ b h. not_both false b refl, λ b h. not_both true refl h)
  bound_law (Atom p) e s lt env x = (λ b h. atom-among decls tokens g p e s env x b h, λ b h. not_both false b refl)
  bound_law EarlyExit e s lt env x = (λ b h. not_both false b refl, λ b h. not_both false b refl)
  bound_law (BraceOpen p y) e s lt env x =
      (λ b h. brace-among decls tokens g p e s env x is_open y b h, λ b h. not_both false b refl)
  bound_law (BraceClose p y) e s lt env x =
      (λ b h. brace-among decls tokens g p e s env x is_close y b h, λ b h. not_both false b refl)
  bound_law (Inside y) e s lt env x = (λ b h. block-among g s env x y b h, λ b h. not_both false b refl)
  bound_law (Outside y) e s lt env x = (λ b h. not_both false b refl, λ b h. not_both false b refl)
  bound_law (Not f) e s lt env x =
      let r = bound_law f e s lt env x in
      (λ b h. r.1 b (not_true _ h), λ b h. r.0 b (not_false _ h))
  bound_law (And f h) e s lt env x =
      let r = bound_law f e.0 s lt env x in let u = bound_law h e.1 s lt env x in (
        λ b w. ⊎_elim (λ c. r.0 c (and_left _ _ w)) (λ c. u.0 c (and_right _ _ w)) (or_cases _ _ b),
        λ b w. ⊎_elim (λ c. r.1 (and_left _ _ b) c) (λ c. u.1 (and_right _ _ b) c) (and_false _ _ w),
      )
  bound_law (Or f h) e s lt env x =
      let r = bound_law f e.0 s lt env x in let u = bound_law h e.1 s lt env x in (
        λ b w. ⊎_elim (λ c. r.0 (and_left _ _ b) c) (λ c. u.0 (and_right _ _ b) c) (or_cases _ _ w),
        λ b w. let z = or_false _ _ w in ⊎_elim (λ c. r.1 c z.0) (λ c. u.1 c z.1) (or_cases _ _ b),
      )
  bound_law (AX f) e s lt env x = (
    λ b w.
        let k = first_after g ok s lt in
        (bound_law f e k.0 (node_after g ok s k.0 lt k.1) env x).0 b
        (all_has (λ n. holds decls tokens g m f n env) k.0 (succ_of g s) k.1 w),
    λ b w.
        let k = all_lacks (λ n. holds decls tokens g m f n env) (succ_of g s) w in
        (bound_law f e k.0 (node_after g ok s k.0 lt k.1) env x).1 b k.2,
  )
  bound_law (EX f) e s lt env x = (
    λ b w.
        let k = any_found (λ n. holds decls tokens g m f n env) (succ_of g s) w in
        (bound_law f e k.0 (node_after g ok s k.0 lt k.1) env x).0 b k.2,
    λ b w.
        let k = first_after g ok s lt in
        (bound_law f e k.0 (node_after g ok s k.0 lt k.1) env x).1 b
        (any_lacks (λ n. holds decls tokens g m f n env) k.0 (succ_of g s) k.1 w),
  )
  bound_law (AU f h) e s lt env x = (
    λ b w.
        let n = until_end g ok true (λ n. holds decls tokens g m f n env) (λ n. holds decls tokens g m h n env) m s lt w in
        (bound_law h e.1 n.0 n.1 env x).0 b n.2,
    λ b w. (bound_law h e.1 s lt env x).1 b
        (until_not g ok true (λ n. holds decls tokens g m f n env) (λ n. holds decls tokens g m h n env) m s pos w),
  )
  bound_law (EU f h) e s lt env x = (
    λ b w.
        let n = until_end g ok false (λ n. holds decls tokens g m f n env) (λ n. holds decls tokens g m h n env) m s lt w in
        (bound_law h e.1 n.0 n.1 env x).0 b n.2,
    λ b w. (bound_law h e.1 s lt env x).1 b
        (until_not g ok false (λ n. holds decls tokens g m f n env) (λ n. holds decls tokens g m h n env) m s pos w),
  )
  bound_law (After f) e s lt env x = (
    λ b w.
        let k = there_found (λ n. holds decls tokens g m f n env) (past_of g s) w in
        (bound_law f e k.0 (past_node g ok s k.0 lt k.1) env x).0 b k.2,
    λ b w. not_both false b refl,
  )
  bound_law (InBranch i f) e s lt env x = (
    λ b w.
        let k = there_found (λ n. holds decls tokens g m f n env) (slice_get (down_of g s) i) w in
        (bound_law f e k.0 (down_node g ok s i k.0 lt k.1) env x).0 b k.2,
    λ b w. not_both false b refl,
  )
  bound_law (Exists y f) e s lt env x = (
    λ b w.
        let v = any_found (λ v. holds decls tokens g m f s (change env y v)) (values_of g) w in
        subst (λ u. is_among (values_of g) u ≡ true) (other-value env y v.0 x (and_right _ _ b))
        ((bound_law f e s lt (change env y v.0) x).0 (and_left _ _ b) v.2),
    λ b w.
        let v = some_value g ok s lt in
        subst (λ u. is_among (values_of g) u ≡ true) (other-value env y v.0 x (and_right _ _ b))
        ((bound_law f e s lt (change env y v.0) x).1 (and_left _ _ b)
        (any_lacks (λ v. holds decls tokens g m f s (change env y v)) v.0 (values_of g) v.1 w)),
  )

  pub bound_values : (f : Plain) → EachPattern (SureStand decls tokens) f → (s : ℕ) → s < count_of g
      → (env : Environment) (x : Var) → HasValues decls tokens g m f s env x
  bound_values f e s lt env x =
      let d = holds_decides decls tokens g ok m pos f s lt env in
      let r = bound_law f e s lt env x in
      record {
        holding = λ b h. r.0 b (d.1 h);
        failing = λ b h. r.1 b
            (⊎_elim (λ t. absurd (h (d.0 t))) (λ n. n) (true_or_false (holds decls tokens g m f s env)));
      }
