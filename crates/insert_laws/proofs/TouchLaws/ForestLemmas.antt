-- In the forest of a rule's formula, the variables that the touched pattern uses have their values above each touch, and
-- those of metavariables are terms.
use Rattle.std.proofs.Common.{◌≡◌, ℕ, zero, suc, ◌+◌, ◌<◌, Bool, true, false, not, ◌&&◌, ◌||◌, cond, refl, sym, ap, ◌∙◌, subst, arith, ⊎_elim}
use Rattle.std.proofs.Common.{if◌then◌else◌, List, [], ◌∷◌, ◌++◌, map, get_or, Option, None, Some, Contains, slice_get}
use Rattle.std.specs.Prelude.{All}
use Rattle.std.specs.List.{filter, list_any}
use Rattle.std.proofs.lemmas.List.Elements.{All-nil, All-cons, All-append, All-weaker, All-head, All-tail, All-filter, All-from_get_or}
use Rattle.std.proofs.lemmas.List.Elements.{All-contains_itself, Contains-get_or, filter_passes}
use Rattle.c_terms.specs.Places.{Place}
use Rattle.cpp_lines.specs.declared.reading.Item.{Item}
use Rattle.cfg_build.specs.declared.cfg_graph.label.NodeLabel.{NodeLabel}
use Rattle.cfg_build.specs.CfgGraph.Flow.{Flow, IsSound, count_of, succ_of, past_of, down_of}
use Rattle.rule_chain.specs.FileWitnesses.Seen.{seen_graph}
use Rattle.smpl_terms.specs.declared.var.Var.{Var}
use Rattle.smpl_terms.specs.declared.value.Value.{Value}
use Rattle.smpl_terms.specs.Vars.{same_var, with_pair}
use Rattle.smpl_terms.specs.Environments.{Environment, change, value_in, has_value}
use Rattle.smpl_terms.proofs.VarLaws.{same_var-refl, same_var-equal}
use Rattle.smpl_patch.specs.declared.pattern.Pattern.{Pattern}
use Rattle.smpl_patch.specs.declared.rule.Rule.{Rule}
use Rattle.smpl_patch.specs.declared.witness.Witness.{Witness}
use Rattle.smpl_patch.specs.declared.witness.Witness.TheVariants.{Touch, Bind}
use Rattle.smpl_patch.specs.Bodies.{body}
use Rattle.smpl_patch.specs.Shapes.{patterns_body}
use Rattle.smpl_patch.specs.Patterns.{used, sure}
use Rattle.pat_match.specs.declared.aligning.Alignment.{Alignment}
use Rattle.pat_match.specs.declared.role.NodeRole.{NodeRole}
use Rattle.pat_match.specs.Roles.{role_of}
use Rattle.pat_match.specs.Spots.{seats}
use Rattle.pat_match.specs.Matching.{put_form, form_at, aligned_at}
use Rattle.pattern_vars.specs.Reads.{is_declared}
use Rattle.ctl_formula.specs.Plain.{Plain, True, Atom, EarlyExit, BraceOpen, BraceClose, Inside, Outside, Not, And, Or, AX, EX, AU, EU, After, InBranch, Exists}
use Rattle.ctl_formula.specs.Bounds.{bound, guarded}
use Rattle.ctl_fixpoint.specs.CtlHolds.Rounds.{holds}
use Rattle.ctl_fixpoint.specs.CtlHolds.Parts.{EachPattern}
use Rattle.ctl_fixpoint.specs.CtlHolds.BoundLaw.{SureStand}
use Rattle.ctl_fixpoint.proofs.CtlHolds.TestLemmas.{or_cases, or_left, or_right, and_left, and_right, not_both}
use Rattle.ctl_fixpoint.proofs.CtlHolds.GraphLemmas.{node_after, past_node, down_node}
use Rattle.wit_forest.specs.WitTrees.Forest.{World, numbers, is_hidden, is_reached, reached, at_option, bound_to, forest}
use Rattle.wit_forest.specs.WitTrees.Graphs.{world_of, paths_at}
use Rattle.wit_forest.specs.WitTrees.Marks.{is_touched}
use Rattle.wit_forest.specs.WitTrees.Unions.{union, union_of}
use Rattle.env_parts.specs.Parts.{Pairs, bare_value}
use Rattle.rule_chain.specs.RuleWitnesses.Bare.{bare_tree}
use Rattle.edit_marks.specs.EditWalk.Touches.{Touched, touches_in}
use Rattle.edit_marks.specs.EditWalk.Touches as walk
use Rattle.insert_laws.specs.TermLaws.Terms.{is_term, HidesBlocks}
use Rattle.insert_laws.proofs.TermLaws.BoundLemmas.{bound_law}
use Rattle.insert_laws.specs.ScopeLaws.Scopes.{Covers}
use Rattle.insert_laws.specs.TouchLaws.Metas.{GivesTerms, AreMetas, ShowsTerms}
use Rattle.insert_laws.proofs.TouchLaws.EnvLemmas.{bare_term, value_there, no_value, term_there, has-with, with_gives}
use Rattle.insert_laws.proofs.TouchLaws.TreeLemmas.{touches-Touch, touches-Bind, flat_touches, Have, have_all, if_h, union_h, unions_of}

-- ---- nodes

pub numbers_below : (c : ℕ) → All (λ n. n < c) (numbers c)
numbers_below zero = All-nil (λ n. n < zero)
numbers_below (suc c) =
    All-append (λ n. n < suc c) (numbers c) (c ∷ [])
    (All-weaker (λ n. n < c) (λ n. n < suc c) (λ n h. omega (arith, h)) (numbers c) (numbers_below c))
    (All-cons (λ n. n < suc c) c [] (omega arith) (All-nil (λ n. n < suc c)))

succ_below : (g : Flow) → IsSound g → (s : ℕ) → s < count_of g → All (λ n. n < count_of g) (succ_of g s)
succ_below g ok s lt =
    All-from_get_or (λ n. n < count_of g) (succ_of g s) 0
    (λ i h. node_after g ok s (get_or (succ_of g s) i 0) lt (Contains-get_or (succ_of g s) i 0 h))

reached_below : (g : Flow) (test : ℕ → Bool) (s : ℕ) → All (λ n. n < count_of g) (reached g test s)
reached_below g test s = All-filter (is_reached g test s) (λ n. n < count_of g) (numbers (count_of g)) (numbers_below (count_of g))

-- ---- where an atom is touched

-- the path leads to a subtree of the node's label against which the pattern is held
record IsSeated (g : Flow) (p : Pattern) (s : ℕ) (path : List ℕ) : Type 0 where
  label : NodeLabel
  label_is : slice_get g.labels s ≡ Some label
  seat : Place
  seat_is : Contains (seats p.spot label.kind label.tree) seat
  path_is : path ≡ label.path ++ seat.path

module _ (rule : Rule) (g : Flow) (p : Pattern) (s : ℕ) (env : Environment) where
  formed : (l : NodeLabel) → slice_get g.labels s ≡ Some l → (at : Place) → Contains (seats p.spot l.kind l.tree) at → (o : Option ℕ)
      → All (λ (a : Alignment). IsSeated g p s a.path) (put_form (l.path ++ at.path) o)
  formed l e at c None = All-nil (λ (a : Alignment). IsSeated g p s a.path)
  formed l e at c (Some i) =
      All-cons (λ (a : Alignment). IsSeated g p s a.path) (record { path = l.path ++ at.path; form = i }) []
      (record { label = l; label_is = e; seat = at; seat_is = c; path_is = refl }) (All-nil (λ (a : Alignment). IsSeated g p s a.path))

  aligned : (l : NodeLabel) → slice_get g.labels s ≡ Some l → (r : NodeRole) (ss : List Place) → All (Contains (seats p.spot l.kind l.tree)) ss
      → All (λ (a : Alignment). IsSeated g p s a.path) (aligned_at rule.vars rule.tokens g.types env p r l.path ss)
  aligned l e r [] h = All-nil (λ (a : Alignment). IsSeated g p s a.path)
  aligned l e r (at ∷ ss) h =
      All-append (λ (a : Alignment). IsSeated g p s a.path) (put_form (l.path ++ at.path) (form_at rule.vars rule.tokens g.types env p r at.tree))
      (aligned_at rule.vars rule.tokens g.types env p r l.path ss)
      (formed l e at (All-head (Contains (seats p.spot l.kind l.tree)) at ss h) (form_at rule.vars rule.tokens g.types env p r at.tree))
      (aligned l e r ss (All-tail (Contains (seats p.spot l.kind l.tree)) at ss h))

  paths : (found : List Alignment) → All (λ (a : Alignment). IsSeated g p s a.path) found → All (IsSeated g p s) (map (λ a. a.path) found)
  paths [] h = All-nil (IsSeated g p s)
  paths (a ∷ found) h =
      All-cons (IsSeated g p s) a.path (map (λ a. a.path) found) (All-head (λ (a : Alignment). IsSeated g p s a.path) a found h)
      (paths found (All-tail (λ (a : Alignment). IsSeated g p s a.path) a found h))

  at_label : (o : Option NodeLabel) → slice_get g.labels s ≡ o → All (IsSeated g p s) (paths_at rule.vars rule.tokens g.types p env o)
  at_label None e = All-nil (IsSeated g p s)
  at_label (Some l) e =
      paths (aligned_at rule.vars rule.tokens g.types env p (role_of l) l.path (seats p.spot l.kind l.tree))
      (aligned l e (role_of l) (seats p.spot l.kind l.tree) (All-contains_itself (seats p.spot l.kind l.tree)))

  seated_by : (b : Bool) → All (IsSeated g p s) (if b then paths_at rule.vars rule.tokens g.types p env (slice_get g.labels s) else [])
  seated_by true = at_label (slice_get g.labels s) refl
  seated_by false = All-nil (IsSeated g p s)

  seated : All (IsSeated g p s) ((world_of rule.vars rule.tokens g).touches p s env)
  seated = seated_by (is_touched rule.tokens p)

module _ (rule : Rule) (metas : Var → Bool) (are : AreMetas metas rule) (items : List Item) (g : Flow) where
  abbrev Good : Touched → Type 0
  Good t = ShowsTerms metas rule items t

  -- the environment has values of all metavariables of the rule that pass
  abbrev pub HasAll : (Var → Bool) → Pairs → Type 0
  HasAll test env = (x : Var) → test x ≡ true → metas x ≡ true → is_declared rule.vars x ≡ true → has_value env x ≡ true

  -- in each item with this graph, under each environment with these values, each touch of the tree is such
  abbrev pub Fine : (Var → Bool) → Witness → Type 0
  Fine test w = (env : Pairs) → GivesTerms metas env → HasAll test env → (item : ℕ) → seen_graph rule items item ≡ Some g
      → All Good (touches_in item env (bare_tree w))

  touch_fine : (test : Var → Bool) (p : Pattern) → Contains (patterns_body (body rule.body)) p
      → ((x : Var) → used rule.vars rule.tokens p x ≡ true → test x ≡ true) → (s : ℕ) (path : List ℕ) → IsSeated g p s path
      → Fine test (Touch s p.atom path)
  touch_fine test p c covers s path at env gives has item is =
      let good : Good (record { item = item; node = s; atom = p.atom; path = path; env = env }) = record {
        pattern = p;
        among = c;
        atom = refl;
        stands = record {
          graph = g;
          graph_is = is;
          label = at.label;
          label_is = at.label_is;
          seat = at.seat;
          seat_is = at.seat_is;
          path_is = at.path_is;
        };
        each = λ x u m d.
            let v = value_there (value_in env x) (has x (covers x u) m d) in
            let t = term_there v.0 (gives x m v.0 v.1) in
            (t.0, v.1 ∙ ap (λ (z : Value). Some z) t.1);
      } in
      subst (All Good) (sym (touches-Touch item env s p.atom path)) (All-cons Good _ [] good (All-nil Good))

  bound_gives : (env : Pairs) (x : Var) (v : Value) → GivesTerms metas env → (metas x ≡ true → is_term v ≡ true)
      → (b : Bool) → has_value env x ≡ b → GivesTerms metas (cond b env (with_pair env x v))
  bound_gives env x v g h true e = g
  bound_gives env x v g h false e = with_gives metas env x v (no_value (value_in env x) e) g h

  bound_has : (test : Var → Bool) (env : Pairs) (x : Var) (v : Value) → HasAll test env → (b : Bool) → has_value env x ≡ b
      → HasAll (λ y. test y || same_var x y) (cond b env (with_pair env x v))
  bound_has test env x v h true e y t m d = ⊎_elim (λ a. h y a m d) (λ a. ap (has_value env) (sym (same_var-equal x y a)) ∙ e)
      (or_cases (test y) (same_var x y) t)
  bound_has test env x v h false e y t m d =
      has-with env x v y (no_value (value_in env x) e) (⊎_elim
      (λ a. or_left (has_value env y) (same_var x y) (h y a m d))
      (λ a. or_right (has_value env y) (same_var x y) a)
      (or_cases (test y) (same_var x y) t))

  bind_fine : (test : Var → Bool) (s : ℕ) (x : Var) (v : Value) → (metas x ≡ true → is_term v ≡ true) → (ws : List Witness)
      → Have (Fine (λ y. test y || same_var x y)) ws → Fine test (Bind s x v ws)
  bind_fine test s x v term ws h env gives has item is =
      let next : Pairs = walk.bound env x (bare_value v) in
      let more : GivesTerms metas next = bound_gives env x (bare_value v) gives (λ m. bare_term v ∙ term m) (has_value env x) refl in
      let all : HasAll (λ y. test y || same_var x y) next = bound_has test env x (bare_value v) has (has_value env x) refl in
      subst (All Good) (sym (touches-Bind item env s x v ws))
      (flat_touches Good item next ws
      (All-weaker (Fine (λ y. test y || same_var x y)) (λ w. All Good (touches_in item next (bare_tree w))) (λ w f. f next more all item is) ws
      (have_all (Fine (λ y. test y || same_var x y)) ws h)))

  hidden_fine : (test : Var → Bool) (x : Var) → is_hidden x ≡ true → (ws : List Witness) → Have (Fine (λ y. test y || same_var x y)) ws
      → Have (Fine test) ws
  hidden_fine test x hide [] h = tt
  hidden_fine test x hide (w ∷ ws) h = (
    λ env gives has item is. h.0 env gives
        (λ y t m d. ⊎_elim (λ a. has y a m d)
        (λ a. not_both (is_hidden y) (ap is_hidden (sym (same_var-equal x y a)) ∙ hide) (are.not_hidden y m))
        (or_cases (test y) (same_var x y) t))
        item is,
    hidden_fine test x hide ws h.1,
  )

  module _ (ok : IsSound g) where
    abbrev w : World
    w = world_of rule.vars rule.tokens g

    bound_to_fine : (test : Var → Bool) (s : ℕ) (x : Var) (v : Value) (ws : List Witness) → (metas x ≡ true → is_term v ≡ true)
        → (b : Bool) → is_hidden x ≡ b → Have (Fine (λ y. test y || same_var x y)) ws → Have (Fine test) (bound_to w b s x v ws)
    bound_to_fine test s x v ws term true e h = hidden_fine test x e ws h
    bound_to_fine test s x v ws term false e h = (bind_fine test s x v term ws h, tt)

    touched_fine : (test : Var → Bool) (p : Pattern) → Contains (patterns_body (body rule.body)) p
        → ((x : Var) → used rule.vars rule.tokens p x ≡ true → test x ≡ true) → (s : ℕ) (env : Environment)
        → Have (Fine test) (union_of w.decls (map (λ path. Touch s p.atom path ∷ []) (w.touches p s env)))
    touched_fine test p c covers s env =
        unions_of (Fine test) w.decls (IsSeated g p s) (λ path. Touch s p.atom path ∷ []) (λ path at. (touch_fine test p c covers s path at, tt))
        (w.touches p s env) (seated rule g p s env)

    option_fine : (test : Var → Bool) (f : ℕ → List Witness) (o : Option ℕ) → ((k : ℕ) → o ≡ Some k → Have (Fine test) (f k))
        → Have (Fine test) (at_option w f o)
    option_fine test f None h = tt
    option_fine test f (Some k) h = h k refl

    -- the value of a metavariable under which a part holds that binds it
    value_term : (x : Var) (f : Plain) → EachPattern (SureStand rule.vars rule.tokens) f → HidesBlocks f
        → bound (sure rule.vars rule.tokens) f x ≡ true → (s : ℕ) → s < count_of g → (env : Environment) (v : Value)
        → holds rule.vars rule.tokens g (count_of g + 1) f s (change env x v) ≡ true → metas x ≡ true → is_term v ≡ true
    value_term x f stand hides b s lt env v h m =
        ap (λ c. is_term (cond c v (env x))) (sym (same_var-refl x))
        ∙ (bound_law rule.vars rule.tokens g ok (count_of g + 1) (omega arith) f stand hides s lt (change env x v) x (are.no_positions x m)
        (are.not_hidden x m)).0 b h

    pub forest_fine : (f : Plain) → EachPattern (Contains (patterns_body (body rule.body))) f → EachPattern (SureStand rule.vars rule.tokens) f
        → HidesBlocks f → guarded (sure rule.vars rule.tokens) f ≡ true → (test : Var → Bool) → Covers (used rule.vars rule.tokens) test f
        → (s : ℕ) → s < count_of g → (env : Environment) → Have (Fine test) (forest w f s env)
    forest_fine True ps st hb gd test cov s lt env = tt
    forest_fine (Atom p) ps st hb gd test cov s lt env = touched_fine test p ps cov s env
    forest_fine EarlyExit ps st hb gd test cov s lt env = tt
    forest_fine (BraceOpen p b) ps st hb gd test cov s lt env = touched_fine test p ps cov s env
    forest_fine (BraceClose p b) ps st hb gd test cov s lt env = touched_fine test p ps cov s env
    forest_fine (Inside b) ps st hb gd test cov s lt env = tt
    forest_fine (Outside b) ps st hb gd test cov s lt env = tt
    forest_fine (Not f) ps st hb gd test cov s lt env = tt
    forest_fine (And f h) ps st hb gd test cov s lt env =
        union_h (Fine test) w.decls (forest w f s env) (forest w h s env)
        (forest_fine f ps.0 st.0 hb.0 (and_left _ _ gd) test cov.0 s lt env)
        (forest_fine h ps.1 st.1 hb.1 (and_right _ _ gd) test cov.1 s lt env)
    forest_fine (Or f h) ps st hb gd test cov s lt env =
        union_h (Fine test) w.decls (if w.holds f s env then forest w f s env else []) (if w.holds h s env then forest w h s env else [])
        (if_h (Fine test) (w.holds f s env) (forest w f s env) [] (forest_fine f ps.0 st.0 hb.0 (and_left _ _ gd) test cov.0 s lt env) tt)
        (if_h (Fine test) (w.holds h s env) (forest w h s env) [] (forest_fine h ps.1 st.1 hb.1 (and_right _ _ gd) test cov.1 s lt env) tt)
    forest_fine (AX f) ps st hb gd test cov s lt env =
        unions_of (Fine test) w.decls (λ n. n < count_of g) (λ k. forest w f k env)
        (λ k below. forest_fine f ps st hb gd test cov k below env) (succ_of w.graph s) (succ_below g ok s lt)
    forest_fine (EX f) ps st hb gd test cov s lt env =
        unions_of (Fine test) w.decls (λ n. n < count_of g) (λ k. if w.holds f k env then forest w f k env else [])
        (λ k below. if_h (Fine test) (w.holds f k env) (forest w f k env) [] (forest_fine f ps st hb gd test cov k below env) tt)
        (succ_of w.graph s) (succ_below g ok s lt)
    forest_fine (AU f h) ps st hb gd test cov s lt env =
        unions_of (Fine test) w.decls (λ n. n < count_of g) (λ n. if w.holds h n env then forest w h n env else forest w f n env)
        (λ n below. if_h (Fine test) (w.holds h n env) (forest w h n env) (forest w f n env)
        (forest_fine h ps.1 st.1 hb.1 (and_right _ _ gd) test cov.1 n below env)
        (forest_fine f ps.0 st.0 hb.0 (and_left _ _ gd) test cov.0 n below env))
        (reached w.graph (λ n. w.holds f n env && not (w.holds h n env)) s)
        (reached_below g (λ n. w.holds f n env && not (w.holds h n env)) s)
    forest_fine (EU f h) ps st hb gd test cov s lt env =
        unions_of (Fine test) w.decls (λ n. n < count_of g)
        (λ n. union w.decls (if w.holds h n env then forest w h n env else [])
        (if w.holds f n env && list_any (λ k. w.holds (EU f h) k env) (succ_of w.graph n) then forest w f n env else []))
        (λ n below. union_h (Fine test) w.decls (if w.holds h n env then forest w h n env else [])
        (if w.holds f n env && list_any (λ k. w.holds (EU f h) k env) (succ_of w.graph n) then forest w f n env else [])
        (if_h (Fine test) (w.holds h n env) (forest w h n env) [] (forest_fine h ps.1 st.1 hb.1 (and_right _ _ gd) test cov.1 n below env) tt)
        (if_h (Fine test) (w.holds f n env && list_any (λ k. w.holds (EU f h) k env) (succ_of w.graph n)) (forest w f n env) []
        (forest_fine f ps.0 st.0 hb.0 (and_left _ _ gd) test cov.0 n below env) tt))
        (reached w.graph (λ n. w.holds f n env) s) (reached_below g (λ n. w.holds f n env) s)
    forest_fine (After f) ps st hb gd test cov s lt env =
        option_fine test (λ k. forest w f k env) (past_of w.graph s) (λ k e. forest_fine f ps st hb gd test cov k (past_node g ok s k lt e) env)
    forest_fine (InBranch i f) ps st hb gd test cov s lt env =
        option_fine test (λ k. forest w f k env) (slice_get (down_of w.graph s) i)
        (λ k e. forest_fine f ps st hb gd test cov k (down_node g ok s i k lt e) env)
    forest_fine (Exists x f) ps st hb gd test cov s lt env =
        unions_of (Fine test) w.decls (λ v. w.holds f s (change env x v) ≡ true)
        (λ v. bound_to w (is_hidden x) s x v (forest w f s (change env x v)))
        (λ v h. bound_to_fine test s x v (forest w f s (change env x v))
        (value_term x f st hb (and_left _ _ gd) s lt env v h) (is_hidden x) refl
        (forest_fine f ps st hb (and_right _ _ gd) (λ y. test y || same_var x y) cov s lt (change env x v)))
        (filter (λ v. w.holds f s (change env x v)) w.values)
        (filter_passes (λ v. w.holds f s (change env x v)) w.values)
