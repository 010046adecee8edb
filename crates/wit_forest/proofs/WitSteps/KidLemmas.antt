-- The forest of a part is what the part touches and the forests of the parts that it leads to, except for quantifiers.
use Rattle.std.proofs.Common.{◌≡◌, ℕ, suc, zero, ◌+◌, ◌<◌, ⊎_elim, Bool, true, false, not, cond, ◌&&◌, ◌||◌, eqb, refl, sym, ap}
use Rattle.std.proofs.Common.{◌∙◌, arith, add-one, List, [], ◌∷◌, ◌++◌, map, Option, Some, None, Contains}
use Rattle.std.proofs.lemmas.List.Folds.{list_any-append}
use Rattle.std.specs.Prelude.{slice_get}
use Rattle.std.specs.List.{flat_map, list_any}
use Rattle.cfg_build.specs.CfgGraph.Flow.{Flow, IsSound, count_of, succ_of, past_of, down_of}
use Rattle.smpl_terms.specs.Environments.{Environment}
use Rattle.smpl_patch.specs.declared.pattern.VarDecl.{VarDecl}
use Rattle.smpl_patch.specs.declared.pattern.PatToken.{PatToken}
use Rattle.smpl_patch.specs.declared.pattern.Pattern.{Pattern}
use Rattle.smpl_patch.specs.declared.witness.Witness.{Witness}
use Rattle.smpl_patch.specs.declared.witness.Witness.TheVariants.{Touch}
use Rattle.ctl_formula.specs.Plain.{Plain, AU, EU}
use Rattle.ctl_formula.specs.Tables.{at, plain_of}
use Rattle.ctl_formula.specs.declared.node.Node.{Node}
use Rattle.ctl_formula.specs.declared.node.Node.TheVariants as node
use Rattle.ctl_fixpoint.specs.CtlHolds.Rounds.{rounds}
use Rattle.ctl_fixpoint.proofs.CtlHolds.TestLemmas.{or_cases, or_right, and_left, and_right, and_both, not_both, any_found, any_has}
use Rattle.ctl_fixpoint.proofs.CtlHolds.GraphLemmas.{node_after}
use Rattle.ctl_fixpoint.proofs.CtlHolds.RoundLemmas.{passes-agree, settled}
use Rattle.wit_forest.specs.WitOrder.Same.{same_witness}
use Rattle.wit_forest.specs.WitOrder.Forests.{has}
use Rattle.wit_forest.specs.WitTrees.Unions.{union, union_of}
use Rattle.wit_forest.specs.WitTrees.Forest.{World, forest, at_option, is_reached, numbers, reached}
use Rattle.wit_forest.specs.WitTrees.Graphs.{world_of}
use Rattle.wit_forest.proofs.WitTrees.UnionLemmas.{has-union}
use Rattle.wit_forest.proofs.WitTrees.ReachLemmas.{eqb-same, eqb-itself, any-filter}
use Rattle.wit_forest.proofs.WitTrees.StepLemmas.{has-union_map, au-step, eu-step}
use Rattle.wit_forest.specs.WitSteps.Steps.{kids, held, way_on, there, is_quantifier}
use Rattle.wit_forest.specs.WitSteps.Touches.{touches_of, own_touches}

or-false : (a : Bool) → (a || false) ≡ a
or-false true = refl
or-false false = refl

pub numbers_below : (n m : ℕ) → list_any (λ k. eqb k m) (numbers n) ≡ true → m < n
numbers_below zero m h = absurd cc
numbers_below (suc n) m h = ⊎_elim
    (λ a. let l = numbers_below n m a in omega (arith, l))
    (λ b. let e = eqb-same n m (sym (or-false (eqb n m)) ∙ b) in omega (arith, e))
    (or_cases _ _ (sym (list_any-append (λ k. eqb k m) (numbers n) (n ∷ [])) ∙ h))

-- ---- some walk, round by round

module _ (g : Flow) (ok : IsSound g) (p q : ℕ → Bool) where
  abbrev E : ℕ → Bool
  E = rounds g false p q (count_of g + 1)

  until-step : (s : ℕ) → s < count_of g → E s ≡ (q s || (p s && list_any E (succ_of g s)))
  until-step s lt =
      ap (λ j. rounds g false p q j s) (add-one (count_of g))
      ∙ ap (λ b. q s || (p s && b)) (passes-agree g ok false (rounds g false p q (count_of g)) E
      (settled g ok false p q (count_of g + 1) (omega arith)) s lt)

  -- if the until holds at a node, it holds at each node from which walks reach that one through p
  pub behind : (m : ℕ) → E m ≡ true → (n k : ℕ) → k < count_of g → rounds g false p (λ j. eqb j m) n k ≡ true → E k ≡ true
  behind m e zero k lt h = absurd cc
  behind m e (suc n) k lt h = ⊎_elim
      (λ here. ap E (eqb-same k m here) ∙ e)
      (λ on.
      let next = any_found (rounds g false p (λ j. eqb j m) n) (succ_of g k) (and_right (p k) _ on) in
      until-step k lt ∙ or_right (q k) _ (and_both (p k) _ (and_left (p k) _ on)
      (any_has E next.0 (succ_of g k) next.1 (behind m e n next.0 (node_after g ok k next.0 lt next.1) next.2))))
      (or_cases (eqb k m) _ h)

module _ (decls : List VarDecl) (tokens : List PatToken) (g : Flow) (ok : IsSound g) (fs : List Plain) (env : Environment) (z : Witness) where
  abbrev W : World
  W = world_of decls tokens g

  abbrev H : ℕ → ℕ → Bool
  H i s = W.holds (at fs i) s env

  abbrev here : Plain → ℕ → Bool
  here f s = has (forest W f s env) z

  abbrev some : List (ℕ × ℕ) → Bool
  some ks = list_any (λ k. here (at fs k.0) k.1) ks

  -- ---- touches

  singles : (s a : ℕ) (paths : List (List ℕ)) → list_any (λ path. same_witness (Touch s a path) z || false) paths ≡ has (map (λ path. Touch s a path) paths) z
  singles s a [] = refl
  singles s a (t ∷ ts) = λ i. or-false (same_witness (Touch s a t) z) i || singles s a ts i

  touches : (p : Pattern) (s : ℕ) → has (union_of decls (map (λ path. Touch s p.atom path ∷ []) (W.touches p s env))) z
      ≡ (has (touches_of decls tokens g p s env) z || false)
  touches p s =
      has-union_map W (λ path. Touch s p.atom path ∷ []) (W.touches p s env) z ∙ singles s p.atom (W.touches p s env)
      ∙ sym (or-false (has (touches_of decls tokens g p s env) z))

  -- ---- nodes

  choice : (b : Bool) (i s : ℕ) → has (cond b (forest W (at fs i) s env) []) z ≡ some (cond b ((i, s) ∷ []) [])
  choice true i s = sym (or-false (here (at fs i) s))
  choice false i s = refl

  each_next : (i : ℕ) (xs : List ℕ) → some (map (λ k. (i, k)) xs) ≡ list_any (λ k. here (at fs i) k) xs
  each_next i [] = refl
  each_next i (k ∷ xs) = ap (λ b. here (at fs i) k || b) (each_next i xs)

  some_next : (i : ℕ) (xs : List ℕ) → list_any (λ k. has (cond (H i k) (forest W (at fs i) k env) []) z) xs ≡ some (flat_map (held g H i) xs)
  some_next i [] = refl
  some_next i (k ∷ xs) =
      (λ j. choice (H i k) i k j || some_next i xs j)
      ∙ sym (list_any-append (λ (k : ℕ × ℕ). here (at fs k.0) k.1) (held g H i k) (flat_map (held g H i) xs))

  option : (i : ℕ) (o : Option ℕ) → has (at_option W (λ k. forest W (at fs i) k env) o) z ≡ some (there i o)
  option i None = refl
  option i (Some k) = sym (or-false (here (at fs i) k))

  -- ---- untils

  module _ (part i j s : ℕ) where
    every_case : (f : Plain) → at fs part ≡ f → (b c : Bool)
        → (has (cond b (forest W (at fs j) s env) (forest W (at fs i) s env)) z || ((c && not b) && list_any (λ k. here f k) (succ_of g s)))
        ≡ some (cond b ((j, s) ∷ []) ((i, s) ∷ cond c (map (λ k. (part, k)) (succ_of g s)) []))
    every_case f e true true = refl
    every_case f e true false = refl
    every_case f e false true =
        ap (λ b. here (at fs i) s || b) (sym (each_next part (succ_of g s) ∙ (λ n. list_any (λ k. here (e n) k) (succ_of g s))))
    every_case f e false false = refl

    mix : (a f p b : Bool) → ((f || (p || false)) || ((cond a f false) || b)) ≡ (f || (p || b))
    mix true true p b = refl
    mix true false true b = refl
    mix true false false b = refl
    mix false true p b = refl
    mix false false true b = refl
    mix false false false b = refl

    cond-has : (a : Bool) → has (cond a (forest W (at fs i) s env) []) z ≡ cond a (here (at fs i) s) false
    cond-has true = refl
    cond-has false = refl

    -- the ways from here over next nodes, if nothing is found after a node at which the until fails
    ways : ((k : ℕ) → k < count_of g → H part k ≡ false → here (at fs part) k ≡ false) → (xs : List ℕ)
        → ((k : ℕ) → Contains xs k → k < count_of g)
        → some (flat_map (way_on g H part i s) xs)
        ≡ (cond (list_any (H part) xs) (here (at fs i) s) false || list_any (λ k. here (at fs part) k) xs)
    ways dead [] nodes = refl
    ways dead (k ∷ xs) nodes =
        list_any-append (λ (k : ℕ × ℕ). here (at fs k.0) k.1) (way_on g H part i s k) (flat_map (way_on g H part i s) xs)
        ∙ step (H part k) refl (ways dead xs (λ m c. nodes m (suc c.0, omega (arith, c.1), c.2)))
      where
        step : (b : Bool) → H part k ≡ b
            → some (flat_map (way_on g H part i s) xs) ≡ (cond (list_any (H part) xs) (here (at fs i) s) false || list_any (λ k. here (at fs part) k) xs)
            → (some (cond b ((i, s) ∷ (part, k) ∷ []) []) || some (flat_map (way_on g H part i s) xs))
            ≡ (cond (b || list_any (H part) xs) (here (at fs i) s) false || (here (at fs part) k || list_any (λ k. here (at fs part) k) xs))
        step true e h =
            ap (λ r. (here (at fs i) s || (here (at fs part) k || false)) || r) h
            ∙ mix (list_any (H part) xs) (here (at fs i) s) (here (at fs part) k) (list_any (λ k. here (at fs part) k) xs)
        step false e h =
            let none = dead k (nodes k (zero, omega arith, refl)) e in
            h ∙ ap (λ r. cond (list_any (H part) xs) (here (at fs i) s) false || (r || list_any (λ k. here (at fs part) k) xs)) (sym none)

  -- an until that fails at a node has no trees from that node on
  module _ (f h : Plain) where
    abbrev on : ℕ → Bool
    on n = W.holds f n env

    abbrev end : ℕ → Bool
    end n = W.holds h n env

    abbrev both : ℕ → List Witness
    both n = union decls (cond (end n) (forest W h n env) [])
        (cond (on n && list_any (λ k. W.holds (EU f h) k env) (succ_of g n)) (forest W f n env) [])

    one_held : (b c : Bool) (us vs : List Witness) → has (union decls (cond b us []) (cond c vs [])) z ≡ true → (b || c) ≡ true
    one_held true c us vs r = refl
    one_held false true us vs r = refl
    one_held false false us vs r = absurd cc

    pub holds_there : (m : ℕ) → m < count_of g → has (both m) z ≡ true → W.holds (EU f h) m env ≡ true
    holds_there m lt r =
        until-step g ok on end m lt
        ∙ one_held (end m) (on m && list_any (λ k. W.holds (EU f h) k env) (succ_of g m)) (forest W h m env) (forest W f m env) r

    below : (n m : ℕ) → Contains (numbers n) m → m < n
    below n m c = numbers_below n m (any_has (λ k. eqb k m) m (numbers n) c (eqb-itself m))

    dead_by : (b : Bool) (k : ℕ) → k < count_of g → W.holds (EU f h) k env ≡ false → here (EU f h) k ≡ b → b ≡ false
    dead_by false k lt e r = refl
    dead_by true k lt e r =
        let some_m = sym (has-union_map W both (reached g on k) z ∙ any-filter (is_reached g on k) (λ m. has (both m) z) (numbers (count_of g))) ∙ r in
        let m = any_found (λ m. is_reached g on k m && has (both m) z) (numbers (count_of g)) some_m in
        let found = and_right (is_reached g on k m.0) (has (both m.0) z) m.2 in
        let comes = and_left (is_reached g on k m.0) (has (both m.0) z) m.2 in
        not_both (W.holds (EU f h) k env)
        (behind g ok on end m.0 (holds_there m.0 (below (count_of g) m.0 m.1) found) (count_of g + 1) k lt comes) e

    pub dead : (k : ℕ) → k < count_of g → W.holds (EU f h) k env ≡ false → here (EU f h) k ≡ false
    dead k lt e = let r = dead_by (here (EU f h) k) k lt e refl in r

  module _ (part i j s : ℕ) (e : at fs part ≡ EU (at fs i) (at fs j)) (lt : s < count_of g) where
    dead_part : (k : ℕ) → k < count_of g → H part k ≡ false → here (at fs part) k ≡ false
    dead_part k l r = ap (λ f. here f k) e ∙ dead (at fs i) (at fs j) k l (sym (ap (λ f. W.holds f k env) e) ∙ r)

    -- the trees here, and those after each next node
    pair : (b c : Bool) → has (union decls (cond b (forest W (at fs j) s env) []) (cond c (forest W (at fs i) s env) [])) z
        ≡ (some (cond b ((j, s) ∷ []) []) || cond c (here (at fs i) s) false)
    pair b c =
        has-union decls (cond b (forest W (at fs j) s env) []) (cond c (forest W (at fs i) s env) []) z
        ∙ (λ n. choice b j s n || cond-has part i j s c n)

    regroup : (a b c : Bool) → ((a || b) || c) ≡ (a || (b || c))
    regroup true b c = refl
    regroup false b c = refl

    some_case : (c : Bool)
        → (has (union decls (cond (H j s) (forest W (at fs j) s env) []) (cond (c && list_any (H part) (succ_of g s)) (forest W (at fs i) s env) [])) z
        || (c && list_any (λ k. here (at fs part) k) (succ_of g s)))
        ≡ some (held g H j s ++ cond c (flat_map (way_on g H part i s) (succ_of g s)) [])
    some_case true =
        ap (λ r. r || list_any (λ k. here (at fs part) k) (succ_of g s)) (pair (H j s) (list_any (H part) (succ_of g s)))
        ∙ regroup (some (held g H j s)) (cond (list_any (H part) (succ_of g s)) (here (at fs i) s) false) (list_any (λ k. here (at fs part) k) (succ_of g s))
        ∙ ap (λ r. some (held g H j s) || r) (sym (ways part i j s dead_part (succ_of g s) (λ k c. node_after g ok s k lt c)))
        ∙ sym (list_any-append (λ (k : ℕ × ℕ). here (at fs k.0) k.1) (held g H j s) (flat_map (way_on g H part i s) (succ_of g s)))
    some_case false =
        ap (λ r. r || false) (pair (H j s) false) ∙ or-false (some (held g H j s) || false)
        ∙ sym (list_any-append (λ (k : ℕ × ℕ). here (at fs k.0) k.1) (held g H j s) [])

    some_until : here (EU (at fs i) (at fs j)) s ≡ some (kids g H (node.EU i j) part s)
    some_until =
        eu-step W ok env z (at fs i) (at fs j) s lt
        ∙ (λ n. has (union decls (cond (H j s) (forest W (at fs j) s env) [])
        (cond (H i s && list_any (λ k. W.holds (sym e n) k env) (succ_of g s)) (forest W (at fs i) s env) [])) z
        || (H i s && list_any (λ k. here (sym e n) k) (succ_of g s)))
        ∙ some_case (H i s)

  every_until : (part i j s : ℕ) → at fs part ≡ AU (at fs i) (at fs j) → s < count_of g
      → here (AU (at fs i) (at fs j)) s ≡ some (kids g H (node.AU i j) part s)
  every_until part i j s e lt =
      au-step W ok env z (at fs i) (at fs j) s lt ∙ every_case part i j s (AU (at fs i) (at fs j)) e (H j s) (H i s)

  -- each tree of a part's forest is one of its own touches or in the forest of a part that it leads to, and nothing else is
  pub kid_step : (n : Node) → is_quantifier n ≡ false → (part s : ℕ) → s < count_of g → at fs part ≡ plain_of fs n
      → here (plain_of fs n) s ≡ (has (own_touches decls tokens g n s env) z || some (kids g H n part s))
  kid_step node.True q part s lt e = refl
  kid_step (node.Atom p) q part s lt e = touches p s
  kid_step node.EarlyExit q part s lt e = refl
  kid_step (node.BraceOpen p b) q part s lt e = touches p s
  kid_step (node.BraceClose p b) q part s lt e = touches p s
  kid_step (node.Inside b) q part s lt e = refl
  kid_step (node.Outside b) q part s lt e = refl
  kid_step (node.Not i) q part s lt e = refl
  kid_step (node.And i j) q part s lt e =
      has-union decls (forest W (at fs i) s env) (forest W (at fs j) s env) z
      ∙ ap (λ b. here (at fs i) s || b) (sym (or-false (here (at fs j) s)))
  kid_step (node.Or i j) q part s lt e =
      has-union decls (cond (H i s) (forest W (at fs i) s env) []) (cond (H j s) (forest W (at fs j) s env) []) z
      ∙ (λ n. choice (H i s) i s n || choice (H j s) j s n)
      ∙ sym (list_any-append (λ (k : ℕ × ℕ). here (at fs k.0) k.1) (held g H i s) (held g H j s))
  kid_step (node.AX i) q part s lt e =
      has-union_map W (λ k. forest W (at fs i) k env) (succ_of g s) z ∙ sym (each_next i (succ_of g s))
  kid_step (node.EX i) q part s lt e =
      has-union_map W (λ k. cond (H i k) (forest W (at fs i) k env) []) (succ_of g s) z ∙ some_next i (succ_of g s)
  kid_step (node.AU i j) q part s lt e = every_until part i j s e lt
  kid_step (node.EU i j) q part s lt e = some_until part i j s e lt
  kid_step (node.After i) q part s lt e = option i (past_of g s)
  kid_step (node.InBranch b i) q part s lt e = option i (slice_get (down_of g s) b)
  kid_step (node.Exists x i) q part s lt e = absurd cc
