-- Each variable that a formula binds has a term. Proof: by induction on the formula, both polarities together.
use Rattle.std.proofs.Common.{◌≡◌, ℕ, suc, zero, ◌<◌, Bool, true, false, ◌||◌, refl, sym, ap, ◌∙◌, subst, arith, List}
use Rattle.std.proofs.Common.{map, slice_get, ⊎_elim, Contains}
use Rattle.std.proofs.lemmas.List.Elements.{Contains-append_right}
use Rattle.cfg_build.specs.CfgGraph.Values.{terms_of, places_of}
use Rattle.cfg_build.specs.CfgGraph.Flow.{Flow, IsSound, count_of, succ_of, past_of, down_of}
use Rattle.cfg_build.proofs.CfgGraph.ValueLemmas.{label-place}
use Rattle.smpl_terms.specs.declared.var.Var.{Var}
use Rattle.smpl_terms.specs.declared.value.Value.{Value}
use Rattle.smpl_terms.specs.declared.value.Value.TheVariants.{Term, Place}
use Rattle.smpl_terms.specs.Vars.{same_var}
use Rattle.smpl_terms.specs.Environments.{Environment, change}
use Rattle.smpl_terms.proofs.VarLaws.{same_var-equal}
use Rattle.smpl_patch.specs.declared.pattern.VarDecl.{VarDecl}
use Rattle.smpl_patch.specs.declared.pattern.PatToken.{PatToken}
use Rattle.smpl_patch.specs.declared.pattern.Pattern.{Pattern}
use Rattle.smpl_patch.specs.Patterns.{sure}
use Rattle.ctl_formula.specs.Plain.{Plain, True, Atom, EarlyExit, BraceOpen, BraceClose, Inside, Outside, Not, And, Or, AX, EX, AU}
use Rattle.ctl_formula.specs.Plain.{EU, After, InBranch, Exists}
use Rattle.ctl_formula.specs.Bounds.{bound, bound_not}
use Rattle.ctl_fixpoint.specs.CtlHolds.Values.{values_of}
use Rattle.ctl_fixpoint.specs.CtlHolds.Parts.{EachPattern}
use Rattle.ctl_fixpoint.specs.CtlHolds.Holding.{is_open, is_close}
use Rattle.ctl_fixpoint.specs.CtlHolds.Rounds.{rounds, holds}
use Rattle.ctl_fixpoint.specs.CtlHolds.BoundLaw.{SureStand}
use Rattle.ctl_fixpoint.proofs.CtlHolds.TestLemmas.{or_cases, and_left, and_right, or_false, and_false, true_or_false, not_both, not_true}
use Rattle.ctl_fixpoint.proofs.CtlHolds.TestLemmas.{not_false, Contains-map, any_found, all_has, all_lacks, any_lacks}
use Rattle.ctl_fixpoint.proofs.CtlHolds.GraphLemmas.{node_after, first_after, past_node, down_node}
use Rattle.ctl_fixpoint.proofs.CtlHolds.HoldLemmas.{holds_decides}
use Rattle.wit_forest.specs.WitTrees.Forest.{is_hidden}
use Rattle.insert_laws.specs.TermLaws.Terms.{is_term, IsNoPosition, HidesBlocks, HasTerms}
use Rattle.insert_laws.proofs.TermLaws.AtomLemmas.{atom_term, brace_term}
use Rattle.ctl_fixpoint.proofs.CtlHolds.BoundLemmas.{other-value, some_label, there_found}

-- another variable keeps its value
-- a hidden variable is no other one
not_hidden : (b x : Var) → is_hidden b ≡ true → is_hidden x ≡ false → same_var b x ≡ true → ⊥
not_hidden b x h k e = not_both (is_hidden x) (ap is_hidden (sym (same_var-equal b x e)) ∙ h) k

module _ (g : Flow) (ok : IsSound g) where
  -- where an until holds, its end holds at some node
  until_end : (every : Bool) (p q : ℕ → Bool) (m s : ℕ) → s < count_of g → rounds g every p q m s ≡ true
      → (n : ℕ) × (n < count_of g) × (q n ≡ true)
  until_end every p q zero s lt h = not_both false h refl
  until_end true p q (suc m) s lt h = ⊎_elim
      (λ here. (s, lt, here))
      (λ there.
      let k = first_after g ok s lt in
      until_end true p q m k.0 (node_after g ok s k.0 lt k.1)
      (all_has (rounds g true p q m) k.0 (succ_of g s) k.1 (and_right (p s) _ there)))
      (or_cases (q s) _ h)
  until_end false p q (suc m) s lt h = ⊎_elim
      (λ here. (s, lt, here))
      (λ there.
      let k = any_found (rounds g false p q m) (succ_of g s) (and_right (p s) _ there) in
      until_end false p q m k.0 (node_after g ok s k.0 lt k.1) k.2)
      (or_cases (q s) _ h)

  -- where it doesn't, its end doesn't hold here
  until_not : (every : Bool) (p q : ℕ → Bool) (m s : ℕ) → 0 < m → rounds g every p q m s ≡ false → q s ≡ false
  until_not every p q zero s pos h = absurd (omega (arith, pos))
  until_not every p q (suc m) s pos h = (or_false (q s) _ h).0

  -- the place of a label's brace is a value
  some_value : (s : ℕ) → s < count_of g → (v : Value) × Contains (values_of g) v
  some_value s lt =
      let l = some_label g.labels s lt in
      let c = label-place g s l.0 l.1 in (
        Place l.0.brace,
        Contains-append_right (map Term (terms_of g)) (map Place (places_of g)) (Place l.0.brace)
            (Contains-map Place l.0.brace (places_of g) c.0 c.1 c.2),
      )

module _ (decls : List VarDecl) (tokens : List PatToken) (g : Flow) (ok : IsSound g) (m : ℕ) (pos : 0 < m) where
  abbrev TermOf : Environment → Var → Type 0
  TermOf env x = is_term (env x) ≡ true

  brace_law : (p : Pattern) → SureStand decls tokens p → (y : Var) → is_hidden y ≡ true → (s : ℕ) (env : Environment) (x : Var)
      → IsNoPosition tokens x → is_hidden x ≡ false → (sure decls tokens p x || same_var y x) ≡ true
      → (sure decls tokens p x ≡ true → TermOf env x) → TermOf env x
  brace_law p e y i s env x off hide b law = ⊎_elim (λ a. law a) (λ a. absurd (not_hidden y x i hide a)) (or_cases (sure decls tokens p x) (same_var y x) b)

  pub bound_law : (f : Plain) → EachPattern (SureStand decls tokens) f → HidesBlocks f → (s : ℕ) → s < count_of g
      → (env : Environment) (x : Var) → IsNoPosition tokens x → is_hidden x ≡ false
      → (bound (sure decls tokens) f x ≡ true → holds decls tokens g m f s env ≡ true → TermOf env x)
      × (bound_not (sure decls tokens) f x ≡ true → holds decls tokens g m f s env ≡ false → TermOf env x)
  bound_law True e i s lt env x off hide = (λ b h. not_both false b refl, λ b h. not_both true refl h)
  bound_law (Atom p) e i s lt env x off hide = (λ b h. atom_term decls tokens env x off g p s e b h, λ b h. not_both false b refl)
  bound_law EarlyExit e i s lt env x off hide = (λ b h. not_both false b refl, λ b h. not_both false b refl)
  bound_law (BraceOpen p y) e i s lt env x off hide = (
    λ b h. brace_law p e y i s env x off hide b (λ a. brace_term decls tokens env x off g p s e is_open y a h),
    λ b h. not_both false b refl,
  )
  bound_law (BraceClose p y) e i s lt env x off hide = (
    λ b h. brace_law p e y i s env x off hide b (λ a. brace_term decls tokens env x off g p s e is_close y a h),
    λ b h. not_both false b refl,
  )
  bound_law (Inside y) e i s lt env x off hide = (λ b h. absurd (not_hidden y x i hide b), λ b h. not_both false b refl)
  bound_law (Outside y) e i s lt env x off hide = (λ b h. not_both false b refl, λ b h. not_both false b refl)
  bound_law (Not f) e i s lt env x off hide =
      let r = bound_law f e i s lt env x off hide in
      (λ b h. r.1 b (not_true _ h), λ b h. r.0 b (not_false _ h))
  bound_law (And f h) e i s lt env x off hide =
      let r = bound_law f e.0 i.0 s lt env x off hide in let u = bound_law h e.1 i.1 s lt env x off hide in (
        λ b w. ⊎_elim (λ c. r.0 c (and_left _ _ w)) (λ c. u.0 c (and_right _ _ w)) (or_cases _ _ b),
        λ b w. ⊎_elim (λ c. r.1 (and_left _ _ b) c) (λ c. u.1 (and_right _ _ b) c) (and_false _ _ w),
      )
  bound_law (Or f h) e i s lt env x off hide =
      let r = bound_law f e.0 i.0 s lt env x off hide in let u = bound_law h e.1 i.1 s lt env x off hide in (
        λ b w. ⊎_elim (λ c. r.0 (and_left _ _ b) c) (λ c. u.0 (and_right _ _ b) c) (or_cases _ _ w),
        λ b w. let z = or_false _ _ w in ⊎_elim (λ c. r.1 c z.0) (λ c. u.1 c z.1) (or_cases _ _ b),
      )
  bound_law (AX f) e i s lt env x off hide = (
    λ b w.
        let k = first_after g ok s lt in
        (bound_law f e i k.0 (node_after g ok s k.0 lt k.1) env x off hide).0 b
        (all_has (λ n. holds decls tokens g m f n env) k.0 (succ_of g s) k.1 w),
    λ b w.
        let k = all_lacks (λ n. holds decls tokens g m f n env) (succ_of g s) w in
        (bound_law f e i k.0 (node_after g ok s k.0 lt k.1) env x off hide).1 b k.2,
  )
  bound_law (EX f) e i s lt env x off hide = (
    λ b w.
        let k = any_found (λ n. holds decls tokens g m f n env) (succ_of g s) w in
        (bound_law f e i k.0 (node_after g ok s k.0 lt k.1) env x off hide).0 b k.2,
    λ b w.
        let k = first_after g ok s lt in
        (bound_law f e i k.0 (node_after g ok s k.0 lt k.1) env x off hide).1 b
        (any_lacks (λ n. holds decls tokens g m f n env) k.0 (succ_of g s) k.1 w),
  )
  bound_law (AU f h) e i s lt env x off hide = (
    λ b w.
        let n = until_end g ok true (λ n. holds decls tokens g m f n env) (λ n. holds decls tokens g m h n env) m s lt w in
        (bound_law h e.1 i.1 n.0 n.1 env x off hide).0 b n.2,
    λ b w. (bound_law h e.1 i.1 s lt env x off hide).1 b
        (until_not g ok true (λ n. holds decls tokens g m f n env) (λ n. holds decls tokens g m h n env) m s pos w),
  )
  bound_law (EU f h) e i s lt env x off hide = (
    λ b w.
        let n = until_end g ok false (λ n. holds decls tokens g m f n env) (λ n. holds decls tokens g m h n env) m s lt w in
        (bound_law h e.1 i.1 n.0 n.1 env x off hide).0 b n.2,
    λ b w. (bound_law h e.1 i.1 s lt env x off hide).1 b
        (until_not g ok false (λ n. holds decls tokens g m f n env) (λ n. holds decls tokens g m h n env) m s pos w),
  )
  bound_law (After f) e i s lt env x off hide = (
    λ b w.
        let k = there_found (λ n. holds decls tokens g m f n env) (past_of g s) w in
        (bound_law f e i k.0 (past_node g ok s k.0 lt k.1) env x off hide).0 b k.2,
    λ b w. not_both false b refl,
  )
  bound_law (InBranch j f) e i s lt env x off hide = (
    λ b w.
        let k = there_found (λ n. holds decls tokens g m f n env) (slice_get (down_of g s) j) w in
        (bound_law f e i k.0 (down_node g ok s j k.0 lt k.1) env x off hide).0 b k.2,
    λ b w. not_both false b refl,
  )
  bound_law (Exists y f) e i s lt env x off hide = (
    λ b w.
        let v = any_found (λ v. holds decls tokens g m f s (change env y v)) (values_of g) w in
        subst (λ u. is_term u ≡ true) (other-value env y v.0 x (and_right _ _ b))
        ((bound_law f e i s lt (change env y v.0) x off hide).0 (and_left _ _ b) v.2),
    λ b w.
        let v = some_value g ok s lt in
        subst (λ u. is_term u ≡ true) (other-value env y v.0 x (and_right _ _ b))
        ((bound_law f e i s lt (change env y v.0) x off hide).1 (and_left _ _ b)
        (any_lacks (λ v. holds decls tokens g m f s (change env y v)) v.0 (values_of g) v.1 w)),
  )

  pub bound_terms : (f : Plain) → EachPattern (SureStand decls tokens) f → HidesBlocks f → (s : ℕ) → s < count_of g
      → (env : Environment) (x : Var) → IsNoPosition tokens x → is_hidden x ≡ false → HasTerms decls tokens g m f s env x
  bound_terms f e i s lt env x off hide =
      let d = holds_decides decls tokens g ok m pos f s lt env in
      let r = bound_law f e i s lt env x off hide in
      record {
        holding = λ b h. r.0 b (d.1 h);
        failing = λ b h. r.1 b
            (⊎_elim (λ t. absurd (h (d.0 t))) (λ n. n) (true_or_false (holds decls tokens g m f s env)));
      }
