-- All trees of a forest are found: if a family of parts at nodes under environments is closed under what its members lead
-- to, each tree of a member's forest is found.
use Rattle.std.proofs.Common.{◌≡◌, ℕ, suc, zero, ◌<◌, ⊎_elim, Bool, true, false, not, cond, ◌&&◌, ◌||◌, eqb, refl, sym, ap, ◌∙◌}
use Rattle.std.proofs.Common.{subst, arith, List, [], ◌∷◌, ◌++◌, map, Contains}
use Rattle.std.specs.Prelude.{nat_lt}
use Rattle.std.specs.List.{filter, flat_map, list_any}
use Rattle.cfg_build.specs.CfgGraph.Flow.{Flow, IsSound, count_of, succ_of}
use Rattle.smpl_terms.specs.declared.var.Var.{Var}
use Rattle.smpl_terms.specs.declared.value.Value.{Value}
use Rattle.smpl_terms.specs.Environments.{Environment, change}
use Rattle.smpl_patch.specs.declared.pattern.VarDecl.{VarDecl}
use Rattle.smpl_patch.specs.declared.pattern.PatToken.{PatToken}
use Rattle.smpl_patch.specs.declared.witness.Witness.{Witness}
use Rattle.smpl_patch.specs.declared.witness.Witness.TheVariants.{Bind}
use Rattle.ctl_formula.specs.Plain.{Plain, AU, EU, Exists}
use Rattle.ctl_formula.specs.Tables.{at, plain_of, below}
use Rattle.ctl_formula.specs.declared.node.Node.{Node}
use Rattle.ctl_formula.specs.declared.node.Node.TheVariants as node
use Rattle.ctl_formula.proofs.TableLemmas.{lt-true}
use Rattle.ctl_fixpoint.specs.CtlHolds.Rounds.{rounds}
use Rattle.ctl_fixpoint.specs.CtlHolds.Values.{values_of}
use Rattle.ctl_fixpoint.proofs.CtlHolds.TestLemmas.{or_cases, and_left, and_right, any_found, Contains-first, Contains-later, Contains-map}
use Rattle.wit_forest.specs.WitOrder.Same.{same_witness}
use Rattle.wit_forest.specs.WitOrder.Forests.{has}
use Rattle.wit_forest.specs.WitTrees.Unions.{union}
use Rattle.wit_forest.specs.WitTrees.Forest.{World, forest, is_hidden, bound_to, is_reached, numbers, reached}
use Rattle.wit_forest.specs.WitTrees.Graphs.{world_of}
use Rattle.wit_forest.proofs.WitTrees.UnionLemmas.{has-union}
use Rattle.wit_forest.proofs.WitTrees.ReachLemmas.{any-filter}
use Rattle.wit_forest.proofs.WitTrees.StepLemmas.{has-union_map}
use Rattle.wit_forest.specs.WitSteps.Steps.{kids, held, way_on, is_quantifier}
use Rattle.wit_forest.specs.WitSteps.Touches.{own_touches}
use Rattle.wit_forest.proofs.WitSteps.KidLemmas.{behind, holds_there, kid_step}
use Rattle.wit_forest.proofs.MemberLemmas.{Contains-left, Contains-right, Contains-flat}
use Rattle.wit_forest.proofs.KidRangeLemmas.{is_until, kid_smaller}
use Rattle.wit_forest.proofs.WalkLemmas.{found_on_walks}

module _ (decls : List VarDecl) (tokens : List PatToken) (g : Flow) (fs : List Plain) (N : ℕ → Node) (z : Witness) (F : Bool) where
  abbrev W : World
  W = world_of decls tokens g

  -- where the parts hold under an environment
  abbrev pub H : Environment → ℕ → ℕ → Bool
  H env i s = W.holds (at fs i) s env

  -- the family contains what its members lead to, and z is found if a member leads to it
  pub record Closed (C : ℕ → ℕ → Environment → Type 0) : Type 0 where
    pub inside : (i s : ℕ) (env : Environment) → C i s env → s < count_of g
    pub stands : (i s : ℕ) (env : Environment) → C i s env → at fs i ≡ plain_of fs (N i)
    pub low : (i s : ℕ) (env : Environment) → C i s env → below i (N i) ≡ true
    pub own : (i s : ℕ) (env : Environment) → C i s env → has (own_touches decls tokens g (N i) s env) z ≡ true → F ≡ true
    pub kid : (i s : ℕ) (env : Environment) → C i s env → (k : ℕ × ℕ) → Contains (kids g (H env) (N i) i s) k → C k.0 k.1 env
    pub hidden : (i s : ℕ) (env : Environment) → C i s env → (x : Var) (j : ℕ) → N i ≡ node.Exists x j → is_hidden x ≡ true
        → (v : Value) → Contains (values_of g) v → W.holds (at fs j) s (change env x v) ≡ true → C j s (change env x v)
    pub shown : (i s : ℕ) (env : Environment) → C i s env → (x : Var) (j : ℕ) → N i ≡ node.Exists x j → is_hidden x ≡ false
        → (v : Value) → Contains (values_of g) v → W.holds (at fs j) s (change env x v) ≡ true
        → same_witness (Bind s x v (forest W (at fs j) s (change env x v))) z ≡ true → F ≡ true

  module _ (ok : IsSound g) (C : ℕ → ℕ → Environment → Type 0) (closed : Closed C) where
    -- each tree in the forest of a part in the family is found, if the part's number is below n
    abbrev Found : ℕ → Type 0
    Found n = (i : ℕ) → i < n → (s : ℕ) (env : Environment) → C i s env → has (forest W (at fs i) s env) z ≡ true → F ≡ true

    by_kids : (x : Node) (i : ℕ) → Found i → N i ≡ x → is_quantifier x ≡ false → is_until x ≡ false → (s : ℕ) (env : Environment) → C i s env
        → has (forest W (plain_of fs x) s env) z ≡ true → F ≡ true
    by_kids x i ih e q u s env c h =
        let here : at fs i ≡ plain_of fs x = closed.stands i s env c ∙ ap (plain_of fs) e in
        let low : below i x ≡ true = ap (below i) (sym e) ∙ closed.low i s env c in
        ⊎_elim
        (λ own. closed.own i s env c (ap (λ y. has (own_touches decls tokens g y s env) z) e ∙ own))
        (λ far.
        let k = any_found (λ (k : ℕ × ℕ). has (forest W (at fs k.0) k.1 env) z) (kids g (H env) x i s) far in
        ih k.0.0 (kid_smaller g ok (H env) i x u low i s (closed.inside i s env c) k.0 k.1) k.0.1 env
        (closed.kid i s env c k.0 (subst (λ y. Contains (kids g (H env) y i s) k.0) (sym e) k.1)) k.2)
        (or_cases (has (own_touches decls tokens g x s env) z) _ (sym (kid_step decls tokens g ok fs env z x q i s (closed.inside i s env c) here) ∙ h))

    module _ (i a b : ℕ) (ih : Found i) (e : N i ≡ node.AU a b) (la : a < i) (lb : b < i) (env : Environment) where
      abbrev way : ℕ → Bool
      way n = H env a n && not (H env b n)

      abbrev choice : ℕ → List Witness
      choice n = cond (H env b n) (forest W (at fs b) n env) (forest W (at fs a) n env)

      abbrev more : ℕ → Bool → Bool → List (ℕ × ℕ)
      more k t r = cond t ((b, k) ∷ []) ((a, k) ∷ cond r (map (λ j. (i, j)) (succ_of g k)) [])

      goes : (k : ℕ) → C i k env → (j : ℕ × ℕ) → Contains (more k (H env b k) (H env a k)) j → C j.0 j.1 env
      goes k c j m = closed.kid i k env c j (subst (λ y. Contains (kids g (H env) y i k) j) (sym e) m)

      look_by : (k : ℕ) (t : Bool) → ((j : ℕ × ℕ) → Contains (more k t (H env a k)) j → C j.0 j.1 env)
          → has (cond t (forest W (at fs b) k env) (forest W (at fs a) k env)) z ≡ true → F ≡ true
      look_by k true to q = ih b lb k env (to (b, k) (Contains-first (b, k) [])) q
      look_by k false to q = ih a la k env (to (a, k) (Contains-first (a, k) _)) q

      look : (k : ℕ) → C i k env → has (choice k) z ≡ true → F ≡ true
      look k c q = look_by k (H env b k) (goes k c) q

      next_by : (k j : ℕ) (t r : Bool) → ((p : ℕ × ℕ) → Contains (more k t r) p → C p.0 p.1 env) → (r && not t) ≡ true
          → Contains (succ_of g k) j → C i j env
      next_by k j true true to w m = absurd cc
      next_by k j true false to w m = absurd cc
      next_by k j false false to w m = absurd cc
      next_by k j false true to w m = to (i, j) (Contains-later (a, k) (i, j) _ (Contains-map (λ n. (i, n)) j (succ_of g k) m.0 m.1 m.2))

      next : (k j : ℕ) → C i k env → way k ≡ true → Contains (succ_of g k) j → true ≡ true → C i j env
      next k j c w m u = next_by k j (H env b k) (H env a k) (goes k c) w m

      by_every_until : (s : ℕ) → C i s env → has (forest W (AU (at fs a) (at fs b)) s env) z ≡ true → F ≡ true
      by_every_until s c h =
          found_on_walks g ok way (λ m. has (choice m) z) (λ k. true) (λ k. C i k env) F look (λ m lm q n k lk r. refl) next
          s (closed.inside i s env c) c (sym (has-union_map W choice (reached g way s) z
          ∙ any-filter (is_reached g way s) (λ m. has (choice m) z) (numbers (count_of g))) ∙ h)

    module _ (i a b : ℕ) (ih : Found i) (e : N i ≡ node.EU a b) (la : a < i) (lb : b < i) (env : Environment) where
      abbrev here_on : ℕ → Bool
      here_on n = H env a n

      abbrev until : ℕ → Bool
      until n = W.holds (EU (at fs a) (at fs b)) n env

      abbrev end_at : ℕ → List Witness
      end_at n = cond (H env b n) (forest W (at fs b) n env) []

      abbrev way_at : ℕ → List Witness
      way_at n = cond (H env a n && list_any until (succ_of g n)) (forest W (at fs a) n env) []

      abbrev both : ℕ → List Witness
      both n = union decls (end_at n) (way_at n)

      is_until_here : (k j : ℕ) → C i k env → until j ≡ true → H env i j ≡ true
      is_until_here k j c u = ap (λ f. W.holds f j env) (closed.stands i k env c ∙ ap (plain_of fs) e) ∙ u

      leads : (k : ℕ) → C i k env → (j : ℕ × ℕ)
          → Contains (held g (H env) b k ++ cond (H env a k) (flat_map (way_on g (H env) i a k) (succ_of g k)) []) j → C j.0 j.1 env
      leads k c j m = closed.kid i k env c j (subst (λ y. Contains (kids g (H env) y i k) j) (sym e) m)

      -- the way here and the until at a next node are in the family
      on_way : (k : ℕ) → C i k env → H env a k ≡ true → (j : ℕ) → Contains (succ_of g k) j → until j ≡ true
          → (p : ℕ × ℕ) → Contains ((a, k) ∷ (i, j) ∷ []) p → C p.0 p.1 env
      on_way k c w j m u p here =
          let step : Contains (way_on g (H env) i a k j) p = subst (λ t. Contains (cond t ((a, k) ∷ (i, j) ∷ []) []) p) (sym (is_until_here k j c u)) here in
          let all = Contains-flat (way_on g (H env) i a k) (succ_of g k) j p m step in
          leads k c p (Contains-right (held g (H env) b k) _ p
          (subst (λ t. Contains (cond t (flat_map (way_on g (H env) i a k) (succ_of g k)) []) p) (sym w) all))

      end_by : (k : ℕ) (t : Bool) → ((j : ℕ × ℕ) → Contains (cond t ((b, k) ∷ []) []) j → C j.0 j.1 env)
          → has (cond t (forest W (at fs b) k env) []) z ≡ true → F ≡ true
      end_by k true to q = ih b lb k env (to (b, k) (Contains-first (b, k) [])) q
      end_by k false to q = absurd cc

      way_by : (k : ℕ) (t : Bool) → (t ≡ true → C a k env) → has (cond t (forest W (at fs a) k env) []) z ≡ true → F ≡ true
      way_by k true to q = ih a la k env (to refl) q
      way_by k false to q = absurd cc

      way_covered : (k : ℕ) → C i k env → (H env a k && list_any until (succ_of g k)) ≡ true → C a k env
      way_covered k c w =
          let j = any_found until (succ_of g k) (and_right (H env a k) _ w) in
          on_way k c (and_left (H env a k) _ w) j.0 j.1 j.2 (a, k) (Contains-first (a, k) ((i, j.0) ∷ []))

      seen : (k : ℕ) → C i k env → has (both k) z ≡ true → F ≡ true
      seen k c q = ⊎_elim
          (λ l. end_by k (H env b k) (λ j m. leads k c j (Contains-left (held g (H env) b k) _ j m)) l)
          (λ r. way_by k (H env a k && list_any until (succ_of g k)) (way_covered k c) r)
          (or_cases (has (end_at k) z) _ (sym (has-union decls (end_at k) (way_at k) z) ∙ q))

      back : (m : ℕ) → m < count_of g → has (both m) z ≡ true → (n k : ℕ) → k < count_of g → rounds g false here_on (λ j. eqb j m) n k ≡ true → until k ≡ true
      back m lm q n k lk r = behind g ok here_on (λ n. H env b n) m (holds_there decls tokens g ok fs env z (at fs a) (at fs b) m lm q) n k lk r

      onward : (k j : ℕ) → C i k env → here_on k ≡ true → Contains (succ_of g k) j → until j ≡ true → C i j env
      onward k j c w m u = on_way k c w j m u (i, j) (Contains-later (a, k) (i, j) ((i, j) ∷ []) (Contains-first (i, j) []))

      by_some_until : (s : ℕ) → C i s env → has (forest W (EU (at fs a) (at fs b)) s env) z ≡ true → F ≡ true
      by_some_until s c h =
          found_on_walks g ok here_on (λ m. has (both m) z) until (λ k. C i k env) F seen back onward
          s (closed.inside i s env c) c (sym (has-union_map W both (reached g here_on s) z
          ∙ any-filter (is_reached g here_on s) (λ m. has (both m) z) (numbers (count_of g))) ∙ h)

    or-no : (b : Bool) → (b || false) ≡ true → b ≡ true
    or-no true h = refl
    or-no false h = h

    module _ (i : ℕ) (x : Var) (j : ℕ) (ih : Found i) (e : N i ≡ node.Exists x j) (lj : j < i) (s : ℕ) (env : Environment) (c : C i s env) where
      abbrev on : Value → Bool
      on v = W.holds (at fs j) s (change env x v)

      abbrev under : Bool → Value → List Witness
      under b v = bound_to W b s x v (forest W (at fs j) s (change env x v))

      by : (b : Bool) → is_hidden x ≡ b → (v : Value) → Contains (values_of g) v → on v ≡ true → has (under b v) z ≡ true → F ≡ true
      by true q v m o r = ih j lj s (change env x v) (closed.hidden i s env c x j e q v m o) r
      by false q v m o r = closed.shown i s env c x j e q v m o (or-no (same_witness (Bind s x v (forest W (at fs j) s (change env x v))) z) r)

      by_quantifier : has (forest W (Exists x (at fs j)) s env) z ≡ true → F ≡ true
      by_quantifier h =
          let v = any_found (λ v. on v && has (under (is_hidden x) v) z) (values_of g)
          (sym (has-union_map W (under (is_hidden x)) (filter on (values_of g)) z ∙ any-filter on (λ v. has (under (is_hidden x) v) z) (values_of g)) ∙ h) in
          by (is_hidden x) refl v.0 v.1 (and_left (on v.0) _ v.2) (and_right (on v.0) _ v.2)

    by_node : (x : Node) (i : ℕ) → Found i → N i ≡ x → below i x ≡ true → (s : ℕ) (env : Environment) → C i s env
        → has (forest W (plain_of fs x) s env) z ≡ true → F ≡ true
    by_node node.True i ih e b s env c h = by_kids node.True i ih e refl refl s env c h
    by_node (node.Atom p) i ih e b s env c h = by_kids (node.Atom p) i ih e refl refl s env c h
    by_node node.EarlyExit i ih e b s env c h = by_kids node.EarlyExit i ih e refl refl s env c h
    by_node (node.BraceOpen p v) i ih e b s env c h = by_kids (node.BraceOpen p v) i ih e refl refl s env c h
    by_node (node.BraceClose p v) i ih e b s env c h = by_kids (node.BraceClose p v) i ih e refl refl s env c h
    by_node (node.Inside y) i ih e b s env c h = by_kids (node.Inside y) i ih e refl refl s env c h
    by_node (node.Outside y) i ih e b s env c h = by_kids (node.Outside y) i ih e refl refl s env c h
    by_node (node.Not a) i ih e b s env c h = by_kids (node.Not a) i ih e refl refl s env c h
    by_node (node.And a d) i ih e b s env c h = by_kids (node.And a d) i ih e refl refl s env c h
    by_node (node.Or a d) i ih e b s env c h = by_kids (node.Or a d) i ih e refl refl s env c h
    by_node (node.AX a) i ih e b s env c h = by_kids (node.AX a) i ih e refl refl s env c h
    by_node (node.EX a) i ih e b s env c h = by_kids (node.EX a) i ih e refl refl s env c h
    by_node (node.AU a d) i ih e b s env c h =
        by_every_until i a d ih e (lt-true a i (and_left _ _ b)) (lt-true d i (and_right (nat_lt a i) _ b)) env s c h
    by_node (node.EU a d) i ih e b s env c h =
        by_some_until i a d ih e (lt-true a i (and_left _ _ b)) (lt-true d i (and_right (nat_lt a i) _ b)) env s c h
    by_node (node.After a) i ih e b s env c h = by_kids (node.After a) i ih e refl refl s env c h
    by_node (node.InBranch v a) i ih e b s env c h = by_kids (node.InBranch v a) i ih e refl refl s env c h
    by_node (node.Exists x a) i ih e b s env c h = by_quantifier i x a ih e (lt-true a i b) s env c h

    all_found : (n : ℕ) → Found n
    all_found zero i lt s env c h = absurd (omega (arith, lt))
    all_found (suc n) i lt s env c h =
        by_node (N i) i (λ j lj. all_found n j (omega (arith, lt, lj))) refl (closed.low i s env c) s env c
        (sym (ap (λ f. has (forest W f s env) z) (closed.stands i s env c)) ∙ h)

    -- each tree in the forest of a member is found
    pub complete : (i s : ℕ) (env : Environment) → C i s env → has (forest W (at fs i) s env) z ≡ true → F ≡ true
    complete i s env c h = all_found (suc i) i (omega arith) s env c h
