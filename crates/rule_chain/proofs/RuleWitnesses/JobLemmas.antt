-- What is found in one item, witness by witness and node by node.
use Rattle.std.proofs.Common.{◌≡◌, ℕ, ◌+◌, ◌<◌, ◌≤◌, inl, Bool, true, refl, sym, ap, ◌∙◌, subst, arith, List, [], ◌∷◌, ◌++◌, map, take, drop, length, get_or}
use Rattle.std.specs.List.{filter, flat_map, list_all}
use Rattle.std.proofs.lemmas.List.{append-nil, append_assoc, map-append, take_more, take_all, take-append-drop}
use Rattle.std.proofs.lemmas.List.Concat.{flat_map-append}
use Rattle.std.proofs.lemmas.List.Elements.{filter_agree}
use Rattle.std.proofs.lemmas.List.Sums.{sum_by-cons}
use Rattle.cfg_build.specs.CfgGraph.Flow.{Flow, IsSound, count_of}
use Rattle.smpl_terms.specs.declared.var.Var.{Var}
use Rattle.smpl_terms.specs.Environments.{Environment, over, total}
use Rattle.smpl_patch.specs.declared.witness.Witness.{Witness}
use Rattle.smpl_patch.specs.declared.witness.RuleWitness.{RuleWitness}
use Rattle.smpl_patch.specs.Patterns.{sure}
use Rattle.env_parts.specs.Parts.{Pairs, bare_env}
use Rattle.env_sets.specs.Sets.{Entries, set_denotes}
use Rattle.env_sets.specs.States.{set_at}
use Rattle.ctl_formula.specs.Bounds.{bound}
use Rattle.ctl_formula.specs.Formulas.{FormulaOf, plain}
use Rattle.ctl_fixpoint.specs.CtlHolds.Parts.{IsPart, EachPattern}
use Rattle.ctl_fixpoint.specs.CtlHolds.BoundLaw.{SureStand}
use Rattle.ctl_fixpoint.specs.CtlHolds.Rounds.{holds}
use Rattle.ctl_fixpoint.specs.CtlHolds.Values.{values_of, is_among}
use Rattle.ctl_fixpoint.proofs.CtlHolds.BoundLemmas.{bound_values}
use Rattle.ctl_fixpoint.proofs.CtlHolds.HoldLemmas.{holds_decides}
use Rattle.ctl_fixpoint.proofs.CtlHolds.TestLemmas.{same_bool}
use Rattle.ctl_formula.specs.Plain.{Plain, True, Atom, EarlyExit, BraceOpen, BraceClose, Inside, Outside, Not, And, Or, AX, EX, AU, EU, After, InBranch, Exists}
use Rattle.ctl_fixpoint.specs.States.{AreStateSets}
use Rattle.wit_forest.specs.WitOrder.Same.{same_forest}
use Rattle.wit_forest.specs.WitOrder.Sizes.{forest_size}
use Rattle.wit_forest.proofs.WitOrder.RiseLemmas.{both_parts, both_hold}
use Rattle.wit_forest.specs.WitTrees.Forest.{numbers}
use Rattle.wit_forest.specs.WitTrees.Graphs.{forest_of}
use Rattle.wit_forest.specs.WitTrees.Rules.{choices, in_order}
use Rattle.wit_forest.proofs.WitTrees.AlikeLemmas.{forest_alike, holds_alike}
use Rattle.rule_chain.specs.RuleWitnesses.Bare.{bare_tree, bare_witness}
use Rattle.rule_chain.specs.RuleWitnesses.Choices.{Leaves}
use Rattle.rule_chain.specs.RuleWitnesses.Jobs.{touches_and_binds, BindsExports, witness_at, witnesses_at, witnesses_of}
use Rattle.rule_chain.proofs.RuleWitnesses.BareLemmas.{same-bare_forest, size-bare_forest, bare_env_twice}
use Rattle.rule_chain.proofs.RuleWitnesses.ChoiceLemmas.{bare_alike, passing_alike}

-- ---- sizes

pub nodes-cons : (w : RuleWitness) (ws : List RuleWitness) → touches_and_binds (w ∷ ws) ≡ forest_size w.forest + touches_and_binds ws
nodes-cons w ws = sum_by-cons (λ (n : ℕ). n) (forest_size w.forest) (map (λ u. forest_size u.forest) ws)

pub nodes-append : (vs ws : List RuleWitness) → touches_and_binds (vs ++ ws) ≡ touches_and_binds vs + touches_and_binds ws
nodes-append [] ws = omega arith
nodes-append (v ∷ vs) ws =
    let rest = nodes-append vs ws in let first = nodes-cons v (vs ++ ws) in let all = nodes-cons v vs in omega (arith, rest, first, all)

nodes-bare : (ws : List RuleWitness) → touches_and_binds (map bare_witness ws) ≡ touches_and_binds ws
nodes-bare [] = refl
nodes-bare (w ∷ ws) =
    nodes-cons (bare_witness w) (map bare_witness ws) ∙ (λ i. size-bare_forest w.forest i + nodes-bare ws i) ∙ sym (nodes-cons w ws)

-- witnesses that are equal without ids have the same size
pub nodes-same : (vs ws : List RuleWitness) → map bare_witness vs ≡ map bare_witness ws → touches_and_binds vs ≡ touches_and_binds ws
nodes-same vs ws h = sym (nodes-bare vs) ∙ ap touches_and_binds h ∙ nodes-bare ws

-- one more witness within the budget
pub budget_more : (ws : List RuleWitness) (w : RuleWitness) (before after : ℕ) → before + touches_and_binds ws ≡ 1000000 → after + forest_size w.forest ≡ before
    → after + touches_and_binds (ws ++ w ∷ []) ≡ 1000000
budget_more ws w before after h k =
    let all = nodes-append ws (w ∷ []) in let one = nodes-cons w [] in omega (arith, h, k, all, one)

pub budget_past : (ws : List RuleWitness) (w : RuleWitness) (left : ℕ) → left + touches_and_binds ws ≡ 1000000 → left < forest_size w.forest
    → 1000000 < touches_and_binds (ws ++ w ∷ [])
budget_past ws w left h k = let all = nodes-append ws (w ∷ []) in let one = nodes-cons w [] in omega (arith, h, k, all, one)

pub large_last : (ws : List RuleWitness) (w : RuleWitness) → 1000000 < forest_size w.forest → 1000000 < touches_and_binds (ws ++ w ∷ [])
large_last ws w h = let all = nodes-append ws (w ∷ []) in let one = nodes-cons w [] in omega (arith, h, all, one)

-- ---- one witness

bare-append : (us vs ws : List RuleWitness) → map bare_witness us ≡ map bare_witness vs → map bare_witness (us ++ ws) ≡ map bare_witness (vs ++ ws)
bare-append us vs ws h = map-append bare_witness us ws ∙ ap (λ l. l ++ map bare_witness ws) h ∙ sym (map-append bare_witness vs ws)

bare-append_both : (us vs ws xs : List RuleWitness) → map bare_witness us ≡ map bare_witness vs → map bare_witness ws ≡ map bare_witness xs
    → map bare_witness (us ++ ws) ≡ map bare_witness (vs ++ xs)
bare-append_both us vs ws xs h k = map-append bare_witness us ws ∙ (λ i. h i ++ k i) ∙ sym (map-append bare_witness vs xs)

module _ (f : FormulaOf) (g : Flow) (rule item s : ℕ) where
  abbrev W : Pairs → RuleWitness
  W = witness_at f g [] rule item s

  -- its trees are the same
  pub same_made : (env own : Pairs) (trees forest : List Witness) (ws : List RuleWitness) → own ≡ env → forest ≡ trees
      → same_forest trees (forest_of f.decls f.tokens g (plain f) s (total env)) ≡ true
      → map bare_witness (ws ++ record { rule = rule; item = item; node = s; env = own; forest = forest } ∷ [])
      ≡ map bare_witness (ws ++ W env ∷ [])
  same_made env own trees forest ws e k h =
      let bare = ap (map bare_tree) k ∙ same-bare_forest trees (forest_of f.decls f.tokens g (plain f) s (total env)) h in
      bare-append_both ws ws (record { rule = rule; item = item; node = s; env = own; forest = forest } ∷ []) (W env ∷ []) refl
      (λ i. record { rule = rule; item = item; node = s; env = bare_env (e i); forest = bare i } ∷ [])

  -- and the forests are too large
  pub many_made : (env own : Pairs) (trees forest : List Witness) (ws : List RuleWitness) → own ≡ env → forest ≡ trees
      → same_forest trees (forest_of f.decls f.tokens g (plain f) s (total env)) ≡ true
      → 1000000 < touches_and_binds (ws ++ record { rule = rule; item = item; node = s; env = own; forest = forest } ∷ [])
      → 1000000 < touches_and_binds (ws ++ W env ∷ [])
  many_made env own trees forest ws e k h many =
      subst (λ (n : ℕ). 1000000 < n) (nodes-same (ws ++ record { rule = rule; item = item; node = s; env = own; forest = forest } ∷ [])
      (ws ++ W env ∷ []) (same_made env own trees forest ws e k h)) many

  same_at : (d e : Pairs) → bare_env d ≡ bare_env e → bare_witness (W d) ≡ bare_witness (W e)
  same_at d e h =
      let trees = forest_alike f.decls f.tokens g (plain f) s (total d) (total e) (bare_alike d e h) in
      λ i. record { rule = rule; item = item; node = s; env = h i; forest = map bare_tree (trees i) }

  same_all : (ds es : List Pairs) → map bare_env ds ≡ map bare_env es → map bare_witness (map W ds) ≡ map bare_witness (map W es)
  same_all [] [] h = refl
  same_all [] (e ∷ es) h = absurd cc
  same_all (d ∷ ds) [] h = absurd cc
  same_all (d ∷ ds) (e ∷ es) h =
      let first : bare_env d ≡ bare_env e = cc in
      let rest : map bare_env ds ≡ map bare_env es = cc in
      λ i. same_at d e first i ∷ same_all ds es rest i

  -- the witnesses under environments that are equal without ids
  at_alike : (exports : List Var) (d e : Pairs) → bare_env d ≡ bare_env e
      → map bare_witness (witnesses_at f g exports rule item s d) ≡ map bare_witness (witnesses_at f g exports rule item s e)
  at_alike exports d e h =
      same_all (filter test (choices (in_order (values_of g)) exports d)) (filter test (choices (in_order (values_of g)) exports e))
      (passing_alike (holds f.decls f.tokens g (count_of g + 1) (plain f) s) (λ a b k. holds_alike f.decls f.tokens g (count_of g + 1) (plain f) s a b k)
      (in_order (values_of g)) exports d e h)
    where
      test : Pairs → Bool
      test a = holds f.decls f.tokens g (count_of g + 1) (plain f) s (total a)

  -- ---- one node

  pub node_none : (ws : List RuleWitness) (es : List Pairs) → map bare_witness ws ≡ map bare_witness (ws ++ map W (take 0 es))
  node_none ws es = ap (map bare_witness) (sym (append-nil ws))

  pub node_more : (ws now next : List RuleWitness) (es : List Pairs) (i : ℕ) (e : Pairs) → i < length es → e ≡ get_or es i e
      → map bare_witness now ≡ map bare_witness (ws ++ map W (take i es)) → map bare_witness next ≡ map bare_witness (now ++ W e ∷ [])
      → map bare_witness next ≡ map bare_witness (ws ++ map W (take (i + 1) es))
  node_more ws now next es i e lt is h k =
      let more : take (i + 1) es ≡ take i es ++ e ∷ [] = take_more es i e lt ∙ ap (λ d. take i es ++ d ∷ []) (sym is) in
      k ∙ bare-append now (ws ++ map W (take i es)) (W e ∷ []) h
      ∙ ap (map bare_witness) (append_assoc ws (map W (take i es)) (W e ∷ [])
      ∙ ap (λ l. ws ++ l) (sym (map-append W (take i es) (e ∷ [])) ∙ ap (map W) (sym more)))

  -- the witnesses at the node
  pub node_all : (exports : List Var) (set : Entries) (env : Pairs) (es : List Pairs)
      → ((e : Environment) → set_denotes set e ≡ holds f.decls f.tokens g (count_of g + 1) (plain f) s e)
      → map bare_env es ≡ map bare_env (filter (λ e. set_denotes set (total e)) (choices (in_order (values_of g)) exports env))
      → map bare_witness (map W es) ≡ map bare_witness (witnesses_at f g exports rule item s env)
  node_all exports set env es told h =
      same_all es (filter (λ e. holds f.decls f.tokens g (count_of g + 1) (plain f) s (total e)) (choices (in_order (values_of g)) exports env))
      (h ∙ ap (map bare_env) (filter_agree (λ e. set_denotes set (total e)) (λ e. holds f.decls f.tokens g (count_of g + 1) (plain f) s (total e))
      (λ e. told (total e)) (choices (in_order (values_of g)) exports env)))

  pub node_done : (ws now at_node : List RuleWitness) (es : List Pairs) (i : ℕ) → length es ≤ i
      → map bare_witness now ≡ map bare_witness (ws ++ map W (take i es)) → map bare_witness (map W es) ≡ map bare_witness at_node
      → map bare_witness now ≡ map bare_witness (ws ++ at_node)
  node_done ws now at_node es i le h k =
      h ∙ bare-append_both ws ws (map W (take i es)) at_node refl (ap (λ l. map bare_witness (map W l)) (take_all i es le) ∙ k)

  -- some of them are too large
  pub node_past : (ws now at_node : List RuleWitness) (es : List Pairs) (i : ℕ) (e : Pairs) → i < length es → e ≡ get_or es i e
      → map bare_witness now ≡ map bare_witness (ws ++ map W (take i es)) → map bare_witness (map W es) ≡ map bare_witness at_node
      → 1000000 < touches_and_binds (now ++ W e ∷ []) → 1000000 < touches_and_binds (ws ++ at_node)
  node_past ws now at_node es i e lt is h k many =
      let part = nodes-same (now ++ W e ∷ []) (ws ++ map W (take (i + 1) es)) (node_more ws now (now ++ W e ∷ []) es i e lt is h refl) in
      let whole = nodes-same (ws ++ map W es) (ws ++ at_node) (bare-append_both ws ws (map W es) at_node refl k) in
      let parts : map W es ≡ map W (take (i + 1) es) ++ map W (drop (i + 1) es) =
      ap (map W) (sym (take-append-drop (i + 1) es)) ∙ map-append W (take (i + 1) es) (drop (i + 1) es) in
      let a = nodes-append ws (map W (take (i + 1) es)) in
      let b = nodes-append ws (map W es) in
      let c = ap touches_and_binds parts ∙ nodes-append (map W (take (i + 1) es)) (map W (drop (i + 1) es)) in
      at_least (touches_and_binds (now ++ W e ∷ [])) (touches_and_binds (ws ++ at_node)) (touches_and_binds ws)
      (touches_and_binds (map W (take (i + 1) es))) (touches_and_binds (map W (drop (i + 1) es)))
      (part ∙ a) (sym whole ∙ b ∙ ap (λ n. touches_and_binds ws + n) c) many
    where
      at_least : (n m a b c : ℕ) → n ≡ a + b → m ≡ a + (b + c) → 1000000 < n → 1000000 < m
      at_least n m a b c h k l = omega arith

-- ---- one node after another

module _ (at_node : ℕ → List RuleWitness) (nodes : List ℕ) where
  pub nodes_more : (now next : List RuleWitness) (k s : ℕ) → k < length nodes → s ≡ get_or nodes k s
      → map bare_witness now ≡ map bare_witness (flat_map at_node (take k nodes)) → map bare_witness next ≡ map bare_witness (now ++ at_node s)
      → map bare_witness next ≡ map bare_witness (flat_map at_node (take (k + 1) nodes))
  nodes_more now next k s lt is h same =
      let more : take (k + 1) nodes ≡ take k nodes ++ s ∷ [] = take_more nodes k s lt ∙ ap (λ (n : ℕ). take k nodes ++ n ∷ []) (sym is) in
      same ∙ bare-append now (flat_map at_node (take k nodes)) (at_node s) h
      ∙ ap (map bare_witness) (ap (λ l. flat_map at_node (take k nodes) ++ l) (sym (append-nil (at_node s)))
      ∙ sym (flat_map-append at_node (take k nodes) (s ∷ [])) ∙ ap (flat_map at_node) (sym more))

  -- those up to a node are too large
  pub nodes_past : (now : List RuleWitness) (k s : ℕ) → k < length nodes → s ≡ get_or nodes k s
      → map bare_witness now ≡ map bare_witness (flat_map at_node (take k nodes))
      → 1000000 < touches_and_binds (now ++ at_node s) → 1000000 < touches_and_binds (flat_map at_node nodes)
  nodes_past now k s lt is h many =
      let same = nodes-same (now ++ at_node s) (flat_map at_node (take (k + 1) nodes)) (nodes_more now (now ++ at_node s) k s lt is h refl) in
      let parts : touches_and_binds (flat_map at_node nodes)
      ≡ touches_and_binds (flat_map at_node (take (k + 1) nodes)) + touches_and_binds (flat_map at_node (drop (k + 1) nodes)) =
      ap (λ ns. touches_and_binds (flat_map at_node ns)) (sym (take-append-drop (k + 1) nodes))
      ∙ ap touches_and_binds (flat_map-append at_node (take (k + 1) nodes) (drop (k + 1) nodes))
      ∙ nodes-append (flat_map at_node (take (k + 1) nodes)) (flat_map at_node (drop (k + 1) nodes)) in
      omega (arith, many, same, parts)

-- ---- the sets of the whole formula

part_itself : (f : Plain) → IsPart f f
part_itself True = refl
part_itself (Atom p) = refl
part_itself EarlyExit = refl
part_itself (BraceOpen p b) = refl
part_itself (BraceClose p b) = refl
part_itself (Inside b) = refl
part_itself (Outside b) = refl
part_itself (Not f) = inl refl
part_itself (And f h) = inl refl
part_itself (Or f h) = inl refl
part_itself (AX f) = inl refl
part_itself (EX f) = inl refl
part_itself (AU f h) = inl refl
part_itself (EU f h) = inl refl
part_itself (After f) = inl refl
part_itself (InBranch i f) = inl refl
part_itself (Exists x f) = inl refl

module _ (g : Flow) (f : FormulaOf) (rows : List (List Entries)) (ok : IsSound g) (sets : AreStateSets g f rows)
    (within : f.root < length f.nodes) where
  pub root_told : (s : ℕ) → s < count_of g → (e : Environment)
      → set_denotes (set_at rows f.root s) e ≡ holds f.decls f.tokens g (count_of g + 1) (plain f) s e
  root_told s lt e =
      let told = (sets.stand f.root s within (part_itself (plain f)) lt).means (count_of g + 1) (omega arith) e in
      let truth = holds_decides f.decls f.tokens g ok (count_of g + 1) (omega arith) (plain f) s lt e in
      same_bool (λ h. truth.1 (told.0 h)) (λ h. told.1 (truth.0 h))

  -- they leave exported variables values of the graph
  pub root_leaves : EachPattern (SureStand f.decls f.tokens) (plain f) → (exports : List Var) → BindsExports f exports
      → (env : Pairs) (s : ℕ) → s < count_of g → Leaves (values_of g) exports (set_at rows f.root s) env
  root_leaves stand exports binds env s lt d h = each exports binds
    where
      each : (xs : List Var) → list_all (bound (sure f.decls f.tokens) (plain f)) xs ≡ true
          → list_all (λ x. is_among (values_of g) (over env d x)) xs ≡ true
      each [] b = refl
      each (x ∷ xs) b =
          let p = both_parts (bound (sure f.decls f.tokens) (plain f) x) (list_all (bound (sure f.decls f.tokens) (plain f)) xs) b in
          both_hold {a = is_among (values_of g) (over env d x)} {b = list_all (λ y. is_among (values_of g) (over env d y)) xs}
          ((bound_values f.decls f.tokens g ok (count_of g + 1) (omega arith) (plain f) stand s lt (over env d) x).holding p.0
          (((sets.stand f.root s within (part_itself (plain f)) lt).means (count_of g + 1) (omega arith) (over env d)).0 h))
          (each xs p.1)

-- ---- ids make no difference

map-flat_map : (at_d at_e : ℕ → List RuleWitness) → ((s : ℕ) → map bare_witness (at_d s) ≡ map bare_witness (at_e s)) → (ns : List ℕ)
    → map bare_witness (flat_map at_d ns) ≡ map bare_witness (flat_map at_e ns)
map-flat_map at_d at_e h [] = refl
map-flat_map at_d at_e h (n ∷ ns) = bare-append_both (at_d n) (at_e n) (flat_map at_d ns) (flat_map at_e ns) (h n) (map-flat_map at_d at_e h ns)

pub witnesses_alike : (f : FormulaOf) (g : Flow) (exports : List Var) (rule item : ℕ) (d e : Pairs) → bare_env d ≡ bare_env e
    → map bare_witness (witnesses_of f g exports rule item d) ≡ map bare_witness (witnesses_of f g exports rule item e)
witnesses_alike f g exports rule item d e h =
    map-flat_map (λ s. witnesses_at f g exports rule item s d) (λ s. witnesses_at f g exports rule item s e)
    (λ s. at_alike f g rule item s exports d e h) (numbers (count_of g))

pub witnesses_bare : (f : FormulaOf) (g : Flow) (exports : List Var) (rule item : ℕ) (env : Pairs)
    → map bare_witness (witnesses_of f g exports rule item env) ≡ map bare_witness (witnesses_of f g exports rule item (bare_env env))
witnesses_bare f g exports rule item env = witnesses_alike f g exports rule item env (bare_env env) (sym (bare_env_twice env))

module _ (g : Flow) (f : FormulaOf) (rows : List (List Entries)) (ok : IsSound g) (sets : AreStateSets g f rows)
    (root : ℕ) (at_root : root ≡ f.root) (within : root < length f.nodes) (s : ℕ) (lt : s < count_of g) (set : Entries)
    (read : set ≡ set_at rows root s) where
  low : f.root < length f.nodes
  low = subst (λ (n : ℕ). n < length f.nodes) at_root within

  own : set ≡ set_at rows f.root s
  own = read ∙ ap (λ (n : ℕ). set_at rows n s) at_root

  pub set_told : (e : Environment) → set_denotes set e ≡ holds f.decls f.tokens g (count_of g + 1) (plain f) s e
  set_told e = ap (λ es. set_denotes es e) own ∙ root_told g f rows ok sets low s lt e

  pub set_leaves : EachPattern (SureStand f.decls f.tokens) (plain f) → (exports : List Var) → BindsExports f exports → (env : Pairs)
      → Leaves (values_of g) exports set env
  set_leaves stand exports binds env =
      subst (λ es. Leaves (values_of g) exports es env) (sym own) (root_leaves g f rows ok sets low stand exports binds env s lt)
