-- A row that is computed from the rows of its parts denotes where the formula holds.
use Rattle.std.proofs.Common.{◌≡◌, ℕ, suc, zero, ◌+◌, ◌<◌, ◌≤◌, Bool, true, false, not, ◌&&◌, ◌||◌, cond, nat_lt, refl, sym}
use Rattle.std.proofs.Common.{ap, ◌∙◌, subst, arith, List, [], ◌∷◌, ◌++◌, length, Option, None, Some, slice_get, ◌⊎◌, ⊎_elim}
use Rattle.std.proofs.Common.{length-append, Contains}
use Rattle.std.specs.Bool.{Decides}
use Rattle.std.specs.List.{list_any, list_all}
use Rattle.std.proofs.lemmas.Bool.{cases_lt}
use Rattle.cfg_build.specs.CfgGraph.Flow.{Flow, IsSound, count_of, succ_of, past_of, down_of}
use Rattle.smpl_terms.specs.declared.var.Var.{Var}
use Rattle.smpl_terms.specs.declared.value.Value.{Value}
use Rattle.smpl_terms.specs.Values.{same}
use Rattle.smpl_terms.specs.Vars.{same_var}
use Rattle.smpl_terms.specs.Environments.{Environment, change}
use Rattle.smpl_terms.proofs.VarLaws.{same_var-refl}
use Rattle.smpl_patch.specs.declared.pattern.VarDecl.{VarDecl}
use Rattle.smpl_patch.specs.declared.pattern.PatToken.{PatToken}
use Rattle.smpl_patch.specs.Patterns.{sure}
use Rattle.env_sets.specs.Sets.{Entries, set_denotes, set_vars}
use Rattle.env_sets.specs.States.{IsEven}
use Rattle.env_sets.proofs.AlikeLemmas.{set_alike, change_alike}
use Rattle.ctl_formula.specs.Plain.{Plain}
use Rattle.ctl_formula.specs.Plain as plain
use Rattle.ctl_formula.specs.Bounds.{bound, guarded}
use Rattle.ctl_formula.specs.declared.node.Node.{Node}
use Rattle.ctl_formula.specs.declared.node.Node.TheVariants as node
use Rattle.ctl_formula.specs.Tables.{at, plain_of, plains, below}
use Rattle.ctl_formula.specs.Formulas.{FormulaOf}
use Rattle.ctl_formula.specs.Formulas as formulas
use Rattle.ctl_formula.proofs.TableLemmas.{lt-true}
use Rattle.ctl_fixpoint.specs.CtlHolds.Values.{values_of}
use Rattle.ctl_fixpoint.specs.CtlHolds.Holding.{Holds}
use Rattle.ctl_fixpoint.specs.CtlHolds.Rounds.{passes, passes_there, rounds, holds}
use Rattle.ctl_fixpoint.specs.CtlHolds.Free.{free_vars}
use Rattle.ctl_fixpoint.specs.CtlHolds.Parts.{IsPart, EachPattern}
use Rattle.ctl_fixpoint.specs.CtlHolds.BoundLaw.{SureStand}
use Rattle.ctl_fixpoint.proofs.CtlHolds.TestLemmas.{and_left, and_right, and_both, same_bool, not_both, any_found, any_has}
use Rattle.ctl_fixpoint.proofs.CtlHolds.GraphLemmas.{past_node, down_node}
use Rattle.ctl_fixpoint.proofs.CtlHolds.RoundLemmas.{Agree, passes-agree, rounds-agree, settled}
use Rattle.ctl_fixpoint.proofs.CtlHolds.HoldLemmas.{holds_decides}
use Rattle.ctl_fixpoint.proofs.CtlHolds.BoundLemmas.{bound_law}
use Rattle.ctl_fixpoint.specs.States.{StandsFor, AreStateSets}
use Rattle.ctl_fixpoint.specs.Steps.{set_of, has, row_of, row_vars, Gives, Projects, is_pointwise, is_quantifier, step}
use Rattle.ctl_fixpoint.specs.Steps.{step_vars, IsRowBy, IsGood, IsRowOf, AreRowsTo}
use Rattle.ctl_fixpoint.proofs.RowLemmas.{row_vars-at}

there-agree : (x y : ℕ → Bool) (o : Option ℕ) → ((k : ℕ) → o ≡ Some k → x k ≡ y k) → passes_there x o ≡ passes_there y o
there-agree x y None h = refl
there-agree x y (Some k) h = h k refl

changed : (env : Environment) (x : Var) (v : Value) → change env x v x ≡ v
changed env x v = ap (λ b. cond b v (env x)) (same_var-refl x)

fst : (i j n : ℕ) → (nat_lt i n && nat_lt j n) ≡ true → i < n
fst i j n h = lt-true i n (and_left (nat_lt i n) (nat_lt j n) h)

snd : (i j n : ℕ) → (nat_lt i n && nat_lt j n) ≡ true → j < n
snd i j n h = lt-true j n (and_right (nat_lt i n) (nat_lt j n) h)

module _ (decls : List VarDecl) (tokens : List PatToken) where
  abbrev Good : Plain → Type 0
  Good = IsGood decls tokens

  good : (f : Plain) → guarded (sure decls tokens) f ≡ true → EachPattern (SureStand decls tokens) f → Good f
  good f h e = record { guarded_by_parts = h; stand = e }

  left_good : (f h : Plain) → (guarded (sure decls tokens) f && guarded (sure decls tokens) h) ≡ true
      → (EachPattern (SureStand decls tokens) f × EachPattern (SureStand decls tokens) h) → Good f
  left_good f h b e = good f (and_left _ _ b) e.0

  right_good : (f h : Plain) → (guarded (sure decls tokens) f && guarded (sure decls tokens) h) ≡ true
      → (EachPattern (SureStand decls tokens) f × EachPattern (SureStand decls tokens) h) → Good h
  right_good f h b e = good h (and_right _ _ b) e.1

  two_parts : (h f k : Plain) → (Good f → IsPart h f → Good h) → (Good k → IsPart h k → Good h) → Good f → Good k
      → (IsPart h f ⊎ IsPart h k) → Good h
  two_parts h f k a b u v p = ⊎_elim (a u) (b v) p

  -- parts of a good formula are good
  pub part_good : (h f : Plain) → Good f → IsPart h f → Good h
  part_good h plain.True u p = subst Good (sym p) u
  part_good h (plain.Atom q) u p = subst Good (sym p) u
  part_good h plain.EarlyExit u p = subst Good (sym p) u
  part_good h (plain.BraceOpen q b) u p = subst Good (sym p) u
  part_good h (plain.BraceClose q b) u p = subst Good (sym p) u
  part_good h (plain.Inside b) u p = subst Good (sym p) u
  part_good h (plain.Outside b) u p = subst Good (sym p) u
  part_good h (plain.Not f) u p = ⊎_elim (λ e. subst Good (sym e) u) (λ i. part_good h f (good f u.guarded_by_parts u.stand) i) p
  part_good h (plain.And f k) u p = ⊎_elim (λ e. subst Good (sym e) u)
      (λ i. two_parts h f k (part_good h f) (part_good h k)
      (left_good f k u.guarded_by_parts u.stand) (right_good f k u.guarded_by_parts u.stand) i) p
  part_good h (plain.Or f k) u p = ⊎_elim (λ e. subst Good (sym e) u)
      (λ i. two_parts h f k (part_good h f) (part_good h k)
      (left_good f k u.guarded_by_parts u.stand) (right_good f k u.guarded_by_parts u.stand) i) p
  part_good h (plain.AX f) u p = ⊎_elim (λ e. subst Good (sym e) u) (λ i. part_good h f (good f u.guarded_by_parts u.stand) i) p
  part_good h (plain.EX f) u p = ⊎_elim (λ e. subst Good (sym e) u) (λ i. part_good h f (good f u.guarded_by_parts u.stand) i) p
  part_good h (plain.AU f k) u p = ⊎_elim (λ e. subst Good (sym e) u)
      (λ i. two_parts h f k (part_good h f) (part_good h k)
      (left_good f k u.guarded_by_parts u.stand) (right_good f k u.guarded_by_parts u.stand) i) p
  part_good h (plain.EU f k) u p = ⊎_elim (λ e. subst Good (sym e) u)
      (λ i. two_parts h f k (part_good h f) (part_good h k)
      (left_good f k u.guarded_by_parts u.stand) (right_good f k u.guarded_by_parts u.stand) i) p
  part_good h (plain.After f) u p = ⊎_elim (λ e. subst Good (sym e) u) (λ i. part_good h f (good f u.guarded_by_parts u.stand) i) p
  part_good h (plain.InBranch b f) u p = ⊎_elim (λ e. subst Good (sym e) u) (λ i. part_good h f (good f u.guarded_by_parts u.stand) i) p
  part_good h (plain.Exists x f) u p = ⊎_elim (λ e. subst Good (sym e) u)
      (λ i. part_good h f (good f (and_right (bound (sure decls tokens) f x) _ u.guarded_by_parts) u.stand) i) p

  -- the variables of a part, given those of its parts
  step_free : (n : Node) (fs : List Plain) (len : ℕ) → below len n ≡ true → (v : (Var → Bool) → ℕ → Bool)
      → ((i : ℕ) → i < len → (t : Var → Bool) → free_vars decls tokens t (at fs i) ≡ true → v t i ≡ true)
      → (test : Var → Bool) → free_vars decls tokens test (plain_of fs n) ≡ true
      → step_vars decls tokens v test n ≡ true
  step_free node.True fs len b v h test e = refl
  step_free (node.Atom p) fs len b v h test e = e
  step_free node.EarlyExit fs len b v h test e = refl
  step_free (node.BraceOpen p y) fs len b v h test e = e
  step_free (node.BraceClose p y) fs len b v h test e = e
  step_free (node.Inside y) fs len b v h test e = e
  step_free (node.Outside y) fs len b v h test e = e
  step_free (node.Not i) fs len b v h test e = h i (lt-true i len b) test e
  step_free (node.And i j) fs len b v h test e =
      and_both _ _ (h i (fst i j len b) test (and_left _ _ e)) (h j (snd i j len b) test (and_right _ _ e))
  step_free (node.Or i j) fs len b v h test e =
      and_both _ _ (h i (fst i j len b) test (and_left _ _ e)) (h j (snd i j len b) test (and_right _ _ e))
  step_free (node.AX i) fs len b v h test e = h i (lt-true i len b) test e
  step_free (node.EX i) fs len b v h test e = h i (lt-true i len b) test e
  step_free (node.AU i j) fs len b v h test e =
      and_both _ _ (h i (fst i j len b) test (and_left _ _ e)) (h j (snd i j len b) test (and_right _ _ e))
  step_free (node.EU i j) fs len b v h test e =
      and_both _ _ (h i (fst i j len b) test (and_left _ _ e)) (h j (snd i j len b) test (and_right _ _ e))
  step_free (node.After i) fs len b v h test e = h i (lt-true i len b) test e
  step_free (node.InBranch y i) fs len b v h test e = h i (lt-true i len b) test e
  step_free (node.Exists x i) fs len b v h test e = h i (lt-true i len b) (λ y. test y || same_var y x) e

  module _ (g : Flow) (ok : IsSound g) where
    -- if its parts' rows are right, a part's row is right
    step_means : (n : Node) (fs : List Plain) (len : ℕ) → below len n ≡ true → is_quantifier n ≡ false
        → (x : ℕ → ℕ → Bool) (m : ℕ) → count_of g ≤ m → (env : Environment)
        → ((i : ℕ) → i < len → Good (at fs i) → Agree (count_of g) (x i) (λ s. holds decls tokens g m (at fs i) s env))
        → Good (plain_of fs n) → (s : ℕ) → s < count_of g
        → step decls tokens g x n s env ≡ holds decls tokens g m (plain_of fs n) s env
    step_means node.True fs len b z x m le env h u s lt = refl
    step_means (node.Atom p) fs len b z x m le env h u s lt = refl
    step_means node.EarlyExit fs len b z x m le env h u s lt = refl
    step_means (node.BraceOpen p y) fs len b z x m le env h u s lt = refl
    step_means (node.BraceClose p y) fs len b z x m le env h u s lt = refl
    step_means (node.Inside y) fs len b z x m le env h u s lt = refl
    step_means (node.Outside y) fs len b z x m le env h u s lt = refl
    step_means (node.Not i) fs len b z x m le env h u s lt =
        ap not (h i (lt-true i len b) (good (at fs i) u.guarded_by_parts u.stand) s lt)
    step_means (node.And i j) fs len b z x m le env h u s lt =
        let e = h i (fst i j len b) (left_good (at fs i) (at fs j) u.guarded_by_parts u.stand) s lt in
        let f = h j (snd i j len b) (right_good (at fs i) (at fs j) u.guarded_by_parts u.stand) s lt in
        ap (λ c. c && x j s) e ∙ ap (λ c. holds decls tokens g m (at fs i) s env && c) f
    step_means (node.Or i j) fs len b z x m le env h u s lt =
        let e = h i (fst i j len b) (left_good (at fs i) (at fs j) u.guarded_by_parts u.stand) s lt in
        let f = h j (snd i j len b) (right_good (at fs i) (at fs j) u.guarded_by_parts u.stand) s lt in
        ap (λ c. c || x j s) e ∙ ap (λ c. holds decls tokens g m (at fs i) s env || c) f
    step_means (node.AX i) fs len b z x m le env h u s lt =
        passes-agree g ok true (x i) (λ k. holds decls tokens g m (at fs i) k env)
        (h i (lt-true i len b) (good (at fs i) u.guarded_by_parts u.stand)) s lt
    step_means (node.EX i) fs len b z x m le env h u s lt =
        passes-agree g ok false (x i) (λ k. holds decls tokens g m (at fs i) k env)
        (h i (lt-true i len b) (good (at fs i) u.guarded_by_parts u.stand)) s lt
    step_means (node.AU i j) fs len b z x m le env h u s lt =
        rounds-agree g ok true (x i) (x j) (λ k. holds decls tokens g m (at fs i) k env)
        (λ k. holds decls tokens g m (at fs j) k env)
        (h i (fst i j len b) (left_good (at fs i) (at fs j) u.guarded_by_parts u.stand))
        (h j (snd i j len b) (right_good (at fs i) (at fs j) u.guarded_by_parts u.stand)) (count_of g) s lt
        ∙ settled g ok true (λ k. holds decls tokens g m (at fs i) k env) (λ k. holds decls tokens g m (at fs j) k env) m le s lt
    step_means (node.EU i j) fs len b z x m le env h u s lt =
        rounds-agree g ok false (x i) (x j) (λ k. holds decls tokens g m (at fs i) k env)
        (λ k. holds decls tokens g m (at fs j) k env)
        (h i (fst i j len b) (left_good (at fs i) (at fs j) u.guarded_by_parts u.stand))
        (h j (snd i j len b) (right_good (at fs i) (at fs j) u.guarded_by_parts u.stand)) (count_of g) s lt
        ∙ settled g ok false (λ k. holds decls tokens g m (at fs i) k env) (λ k. holds decls tokens g m (at fs j) k env) m le s lt
    step_means (node.After i) fs len b z x m le env h u s lt =
        there-agree (x i) (λ k. holds decls tokens g m (at fs i) k env) (past_of g s)
        (λ k e. h i (lt-true i len b) (good (at fs i) u.guarded_by_parts u.stand) k (past_node g ok s k lt e))
    step_means (node.InBranch y i) fs len b z x m le env h u s lt =
        there-agree (x i) (λ k. holds decls tokens g m (at fs i) k env) (slice_get (down_of g s) y)
        (λ k e. h i (lt-true i len b) (good (at fs i) u.guarded_by_parts u.stand) k (down_node g ok s y k lt e))
    step_means (node.Exists y i) fs len b z x m le env h u s lt = not_both true refl z

    module _ (f : Plain) (x : Var) (a : List Entries) (fa : IsRowOf decls tokens g f a) (u : Good (plain.Exists x f)) (m : ℕ)
        (le : count_of g + 1 ≤ m) (s : ℕ) (lt : s < count_of g) (env : Environment) where
      inner : Good f
      inner = good f (and_right (bound (sure decls tokens) f x) _ u.guarded_by_parts) u.stand

      -- a value under which the part holds is the same as one of the graph's
      in_graph : (w : Value) → has a s (change env x w) ≡ true
          → list_any (λ v. holds decls tokens g m f s (change env x v)) (values_of g) ≡ true
      in_graph w h =
          let here : holds decls tokens g m f s (change env x w) ≡ true =
          sym (fa.means inner m le s lt (change env x w)) ∙ h in
          let bounded = (bound_law decls tokens g ok m (omega (arith, le)) f inner.stand s lt (change env x w) x).0
          (and_left (bound (sure decls tokens) f x) _ u.guarded_by_parts) here in
          let v = any_found (λ v. same v (change env x w x)) (values_of g) bounded in
          let alike : same v.0 w ≡ true = ap (same v.0) (sym (changed env x w)) ∙ v.2 in
          let moved : has a s (change env x v.0) ≡ true =
          set_alike (change env x v.0) (change env x w) (change_alike env x v.0 w alike) (set_of a s) ∙ h in
          any_has (λ k. holds decls tokens g m f s (change env x k)) v.0 (values_of g) v.1
          (sym (fa.means inner m le s lt (change env x v.0)) ∙ moved)

      quantified : (row : List Entries) → Projects (count_of g) x a row
          → has row s env ≡ list_any (λ v. holds decls tokens g m f s (change env x v)) (values_of g)
      quantified row pr = same_bool
          (λ h. let w = (pr.means s lt env).0 h in in_graph w.0 w.1)
          (λ h.
          let v = any_found (λ v. holds decls tokens g m f s (change env x v)) (values_of g) h in
          (pr.means s lt env).1 (v.0, fa.means inner m le s lt (change env x v.0) ∙ v.2))

    module _ (fs : List Plain) (len : ℕ) (rows : List (List Entries))
        (each : (i : ℕ) → i < len → IsRowOf decls tokens g (at fs i) (row_of rows i)) where
      -- a quantifier, or any other part
      abbrev Means : Node → List Entries → Type 0
      Means n row = Good (plain_of fs n) → (m : ℕ) → count_of g + 1 ≤ m → (s : ℕ) → s < count_of g → (env : Environment)
          → has row s env ≡ holds decls tokens g m (plain_of fs n) s env

      told : (n : Node) → below len n ≡ true → (row : List Entries) → IsRowBy decls tokens g rows n row
          → is_quantifier n ≡ false → Means n row
      told n b row r e u m le s lt env =
          (r.told e).means s lt env
          ∙ step_means n fs len b e (λ i k. has (row_of rows i) k env) m (omega (arith, le)) env
          (λ i l v k o. (each i l).means v m le k o env) u s lt

      by_kind : (n : Node) → below len n ≡ true → (row : List Entries) → IsRowBy decls tokens g rows n row → Means n row
      by_kind (node.Exists x i) b row r =
          λ u m le s lt env. quantified (at fs i) x (row_of rows i) (each i (lt-true i len b)) u m le s lt env row
          (r.projects x i refl)
      by_kind n b row r = told n b row r refl

      pub row_step : (n : Node) → below len n ≡ true → (row : List Entries) → IsRowBy decls tokens g rows n row
          → IsRowOf decls tokens g (plain_of fs n) row
      row_step n b row r = record {
        len = r.len;
        means = by_kind n b row r;
        vars = λ test h. r.vars test
            (step_free n fs len b (λ t i. row_vars t (row_of rows i)) (λ i l t e. (each i l).vars t e) test h);
      }

at_end : (rows : List (List Entries)) (row : List Entries) → row_of (rows ++ row ∷ []) (length rows) ≡ row
at_end [] row = refl
at_end (r ∷ rows) row = at_end rows row

in_front : (rows : List (List Entries)) (row : List Entries) (i : ℕ) → i < length rows
    → row_of (rows ++ row ∷ []) i ≡ row_of rows i
in_front [] row i lt = absurd (omega (arith, lt))
in_front (r ∷ rows) row zero lt = refl
in_front (r ∷ rows) row (suc i) lt = in_front rows row i (omega (arith, lt))

module _ (g : Flow) (ok : IsSound g) (nodes : List Node) (decls : List VarDecl) (tokens : List PatToken) where
  pub rows_none : AreRowsTo g nodes decls tokens 0 []
  rows_none = record { len = refl; each = λ i lt. absurd (omega (arith, lt)) }

  pub rows_wide : (n : ℕ) (rows : List (List Entries)) → AreRowsTo g nodes decls tokens n rows → (i : ℕ) → i < length rows
      → length (row_of rows i) ≡ count_of g
  rows_wide n rows a i lt = (a.each i (omega (arith, lt, a.len))).len

  -- one more part
  pub rows_more : (n : ℕ) (rows more : List (List Entries)) (row : List Entries) (x : Node)
      → AreRowsTo g nodes decls tokens n rows → below n x ≡ true → at (plains nodes) n ≡ plain_of (plains nodes) x
      → IsRowBy decls tokens g rows x row → more ≡ rows ++ row ∷ [] → AreRowsTo g nodes decls tokens (n + 1) more
  rows_more n rows more row x a b e r m = record {
    len = omega (arith, ap length m, length-append rows (row ∷ []), a.len);
    each = λ i lt. ⊎_elim
        (λ (less : i < n).
        subst (IsRowOf decls tokens g (at (plains nodes) i))
        (sym (ap (λ rs. row_of rs i) m ∙ in_front rows row i (omega (arith, less, a.len)))) (a.each i less))
        (λ (from : n ≤ i).
        let is : n ≡ i = omega (arith, from, lt) in
        let last : row ≡ row_of more i =
        sym (at_end rows row) ∙ ap (row_of (rows ++ row ∷ [])) (a.len ∙ is) ∙ ap (λ rs. row_of rs i) (sym m) in
        let done = row_step decls tokens g ok (plains nodes) n rows a.each x b row r in
        subst (λ (j : ℕ). IsRowOf decls tokens g (at (plains nodes) j) (row_of more i)) is
        (subst (λ f. IsRowOf decls tokens g f (row_of more i)) (sym e)
        (subst (IsRowOf decls tokens g (plain_of (plains nodes) x)) last done)))
        (cases_lt i n);
  }

  pub rows_even : (n : ℕ) (rows : List (List Entries)) → AreRowsTo g nodes decls tokens n rows → IsEven rows
  rows_even n rows a i j l k = rows_wide n rows a i l ∙ sym (rows_wide n rows a j k)

-- all parts
pub rows_all : (g : Flow) (ok : IsSound g) (f : FormulaOf) (rows : List (List Entries))
    → AreRowsTo g f.nodes f.decls f.tokens (length f.nodes) rows
    → guarded (sure f.decls f.tokens) (formulas.plain f) ≡ true
    → EachPattern (SureStand f.decls f.tokens) (formulas.plain f) → AreStateSets g f rows
rows_all g ok f rows a b e = record {
  parts = a.len;
  nodes = λ i lt. (a.each i lt).len;
  stand = λ i s lt part l.
      let row = a.each i lt in
      let u = part_good f.decls f.tokens (at (plains f.nodes) i) (formulas.plain f) (good f.decls f.tokens (formulas.plain f) b e) part in
      record {
        means = λ m le env.
            let d = holds_decides f.decls f.tokens g ok m (omega (arith, le)) (at (plains f.nodes) i) s l env in
            let is = row.means u m le s l env in
            (λ h. d.0 (sym is ∙ h), λ w. is ∙ d.1 w);
        vars = λ test h. row_vars-at test (row_of rows i) s (row.vars test h) (omega (arith, l, row.len));
      };
}
