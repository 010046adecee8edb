-- At the touches of a rule's witnesses the metavariables that are used have terms, and the environments after it give them
-- only terms.
use Rattle.std.proofs.Common.{◌≡◌, ℕ, suc, ◌+◌, ◌<◌, ◌^◌, Bool, true, false, cond, refl, sym, ap, ◌∙◌, subst, arith, ⊎_elim, List, [], ◌∷◌, map}
use Rattle.std.proofs.Common.{Option, None, Some, Contains, slice_get}
use Rattle.std.specs.Prelude.{All, unwrap_or, take}
use Rattle.std.specs.Option.{option_map}
use Rattle.std.specs.List.{filter, flat_map, filter_map, cons_option, list_all}
use Rattle.std.proofs.lemmas.List.Elements.{All-nil, All-cons, All-head, All-tail, All-append, All-filter, filter_passes}
use Rattle.c_terms.specs.declared.tree.Tree.{Tree}
use Rattle.c_terms.specs.declared.token.Token.{Token}
use Rattle.c_rows.specs.Look.{Names}
use Rattle.c_lexer.specs.Pieces.{TextPiece}
use Rattle.cpp_lines.specs.declared.reading.Item.{Item}
use Rattle.cpp_lines.specs.declared.reading.Item.TheVariants.{Parsed, Skipped}
use Rattle.cpp_lines.specs.declared.span.ItemSpan.{ItemSpan}
use Rattle.cpp_lines.specs.Visible.{VisibleTokens}
use Rattle.cfg_build.specs.CfgGraph.Flow.{Flow, IsSound, count_of}
use Rattle.cfg_build.specs.Graphs.{node_count, graph_of}
use Rattle.c_typing.specs.ItemTypes.{item_types}
use Rattle.cfg_build.proofs.TypedLemmas.{typed-sound}
use Rattle.c_file.specs.Fit.{item_graph}
use Rattle.c_file.specs.ItemGraphs.Trees.{item_tree}
use Rattle.c_file.specs.ItemGraphs.Typed.{scope_of, typed_tree, graph_in, graphs_from}
use Rattle.smpl_patch.specs.Wants.{ask_types}
use Rattle.c_file.specs.Reads.{IsReading, ReadsFrom, Reads, names_after}
use Rattle.smpl_terms.specs.declared.var.Var.{Var}
use Rattle.smpl_terms.specs.declared.value.Value.{Value}
use Rattle.smpl_terms.specs.declared.value.Value.TheVariants.{Place}
use Rattle.smpl_terms.specs.Vars.{same_var}
use Rattle.smpl_terms.specs.Environments.{has_value, total}
use Rattle.smpl_terms.proofs.VarLaws.{same_var-equal}
use Rattle.smpl_patch.specs.declared.rule.Rule.{Rule}
use Rattle.smpl_patch.specs.declared.witness.Witness.{Witness}
use Rattle.smpl_patch.specs.declared.witness.RuleWitness.{RuleWitness}
use Rattle.smpl_patch.specs.Bodies.{body}
use Rattle.smpl_patch.specs.Shapes.{patterns_body}
use Rattle.smpl_patch.specs.Patterns.{used, sure}
use Rattle.ctl_formula.specs.Bounds.{bound}
use Rattle.ctl_translate.specs.Rules.{formula_of, first_unbound}
use Rattle.ctl_translate.proofs.RuleLemmas.{formula-guarded}
use Rattle.ctl_fixpoint.specs.CtlHolds.Values.{values_of}
use Rattle.ctl_fixpoint.specs.CtlHolds.Rounds.{holds}
use Rattle.ctl_fixpoint.specs.CtlHolds.Parts.{EachPattern}
use Rattle.ctl_fixpoint.proofs.CtlHolds.TestLemmas.{or_cases, and_left, and_right, not_both, true_or_false}
use Rattle.wit_forest.specs.WitTrees.Forest.{numbers}
use Rattle.wit_forest.specs.WitTrees.Rules.{in_order, choices, witness_at, witnesses_at, witnesses_of}
use Rattle.env_parts.specs.Parts.{Pairs, is_among, restricted, bare_env}
use Rattle.env_parts.proofs.PartLemmas.{has_value-bare}
use Rattle.rule_chain.specs.RuleWitnesses.Bare.{bare_tree, bare_witness}
use Rattle.rule_chain.specs.RuleWitnesses.Choices.{AreNew}
use Rattle.rule_envs.specs.declared.file_env.FileEnv.{FileEnv}
use Rattle.rule_envs.specs.Inherited.{inherited_of}
use Rattle.rule_envs.specs.Depends.{judge}
use Rattle.rule_envs.specs.Shares.{takes_part, share, projections}
use Rattle.rule_envs.specs.FileEnvs.{extended, replaced, becomes_by}
use Rattle.rule_chain.specs.FileWitnesses.Seen.{seen_graph}
use Rattle.rule_chain.specs.FileWitnesses.Found.{witnesses_in, found_from, found_under, brings}
use Rattle.rule_chain.specs.RuleMatches.Matching.{rule_found, file_envs_after}
use Rattle.rule_chain.proofs.RuleMatches.MatchingLemmas.{are_new}
use Rattle.rule_laws.specs.Ready.{IsReady}
use Rattle.edit_marks.specs.EditWalk.Touches.{Touched, touches_in, touches_of, touches}
use Rattle.insert_laws.specs.TermLaws.Terms.{is_term, HidesBlocks}
use Rattle.insert_laws.proofs.TermLaws.BoundLemmas.{bound_law}
use Rattle.insert_laws.specs.ScopeLaws.Scopes.{Covers, is_free}
use Rattle.insert_laws.specs.TouchLaws.Metas.{GivesTerms, CarriesTerms, AreMetas, ShowsTerms}
use Rattle.insert_laws.proofs.TouchLaws.EnvLemmas.{bare_gives, restricted_gives, restricted-has, joined_gives, distinct_all}
use Rattle.insert_laws.proofs.TouchLaws.ChoiceLemmas.{IsChoice, are_choices, choice_has}
use Rattle.insert_laws.proofs.TouchLaws.TreeLemmas.{flat_touches, Have, have_all}
use Rattle.insert_laws.proofs.TouchLaws.ForestLemmas.{numbers_below, HasAll, Fine, forest_fine}

-- ---- lists

flat_each : {A B : Type 0} (Q : A → Type 0) (P : B → Type 0) (f : A → List B) → ((a : A) → Q a → All P (f a)) → (xs : List A) → All Q xs
    → All P (flat_map f xs)
flat_each Q P f g [] h = All-nil P
flat_each Q P f g (a ∷ xs) h = All-append P (f a) (flat_map f xs) (g a (All-head Q a xs h)) (flat_each Q P f g xs (All-tail Q a xs h))

map_each : {A B : Type 0} (Q : A → Type 0) (P : B → Type 0) (f : A → B) → ((a : A) → Q a → P (f a)) → (xs : List A) → All Q xs → All P (map f xs)
map_each Q P f g [] h = All-nil P
map_each Q P f g (a ∷ xs) h = All-cons P (f a) (map f xs) (g a (All-head Q a xs h)) (map_each Q P f g xs (All-tail Q a xs h))

all_both : {A : Type 0} (P Q : A → Type 0) (xs : List A) → All P xs → All Q xs → All (λ x. P x × Q x) xs
all_both P Q [] h k = All-nil (λ x. P x × Q x)
all_both P Q (x ∷ xs) h k =
    All-cons (λ x. P x × Q x) x xs (All-head P x xs h, All-head Q x xs k) (all_both P Q xs (All-tail P x xs h) (All-tail Q x xs k))

-- what passes of all variables passes of one that is among them
all_among : (q : Var → Bool) (xs : List Var) (x : Var) → list_all q xs ≡ true → is_among xs x ≡ true → q x ≡ true
all_among q [] x h k = not_both false k refl
all_among q (y ∷ ys) x h k = ⊎_elim
    (λ s. ap q (sym (same_var-equal y x s)) ∙ and_left (q y) (list_all q ys) h)
    (λ r. all_among q ys x (and_right (q y) (list_all q ys) h) r)
    (or_cases (same_var y x) (is_among ys x) k)

-- ---- the graphs of items that are read

abbrev pub HasGraph : Item → Type 0
HasGraph (Parsed t) = IsSound (graph_of t)
HasGraph (Skipped span why) = Unit {0}

abbrev pub GraphLaw : Type 0
GraphLaw = (t : Tree) → node_count t < 2 ^ 32 → IsSound (graph_of t)

abbrev pub PatternLaw : Type 0
PatternLaw = (rule : Rule) → EachPattern (Contains (patterns_body (body rule.body))) (formula_of rule)

abbrev pub CoverLaw : Type 0
CoverLaw = (rule : Rule) → Covers (used rule.vars rule.tokens) (is_free rule) (formula_of rule)

abbrev pub BlockLaw : Type 0
BlockLaw = (rule : Rule) → HidesBlocks (formula_of rule)

module _ (law : GraphLaw) where
  has_graph : (names : Names) (tokens : List Token) (span : ItemSpan) (item : Item) → IsReading names tokens span item → HasGraph item
  has_graph names tokens span (Parsed t) h = law t (omega (arith, h.2))
  has_graph names tokens span (Skipped s why) h = tt

  have_graphs : (v : VisibleTokens) (names : Names) (spans : List ItemSpan) (items : List Item) → ReadsFrom v names spans items → All HasGraph items
  have_graphs v names [] [] h = All-nil HasGraph
  have_graphs v names [] (i ∷ is) h = absurd h
  have_graphs v names (s ∷ ss) [] h = absurd h
  have_graphs v names (s ∷ ss) (i ∷ is) h =
      All-cons HasGraph i is (has_graph names _ s i h.0) (have_graphs v (names_after names i) ss is h.1)

  pub graphs_of : (pieces : List TextPiece) (items : List Item) → Reads pieces items → All HasGraph items
  graphs_of pieces items h = have_graphs _ _ _ items h.2

module _ (pattern_law : PatternLaw) (cover_law : CoverLaw) (block_law : BlockLaw) (rule : Rule) (metas : Var → Bool) (are : AreMetas metas rule)
    (ready : IsReady rule) (unbound : first_unbound rule ≡ None) (number : ℕ) (items : List Item) where
  abbrev Gives : Pairs → Type 0
  Gives env = GivesTerms metas env

  -- the environment is what a rule is run under
  record IsShared (env : Pairs) : Type 0 where
    gives : Gives env
    has : (x : Var) → is_among (inherited_of rule) x ≡ true → has_value env x ≡ true
    new : AreNew rule.exports env

  abbrev Shows : Touched → Type 0
  Shows t = ShowsTerms metas rule items t

  record IsLeft (w : RuleWitness) : Type 0 where
    gives : Gives w.env
    shows : All Shows (touches_of w)

  left_gives : (w : RuleWitness) → IsLeft w → Gives w.env
  left_gives w h = h.gives

  left_shows : (w : RuleWitness) → IsLeft w → All Shows (touches_of w)
  left_shows w h = h.shows

  -- ---- witnesses in one item

  module _ (g : Flow) (ok : IsSound g) (item : ℕ) (is : seen_graph rule items item ≡ Some g) where
    abbrev FineTree : Witness → Type 0
    FineTree t = Fine rule metas are items g (is_free rule) t

    record IsFound (w : RuleWitness) : Type 0 where
      at : w.item ≡ item
      gives : Gives w.env
      has : HasAll rule metas are items g (is_free rule) w.env
      fine : Have FineTree w.forest

    pass : (env : Pairs) → Gives env → HasAll rule metas are items g (is_free rule) env → (ws : List Witness)
        → All FineTree ws → All (λ t. All Shows (touches_in item env (bare_tree t))) ws
    pass env e h [] k = All-nil (λ t. All Shows (touches_in item env (bare_tree t)))
    pass env e h (t ∷ ts) k =
        All-cons (λ t. All Shows (touches_in item env (bare_tree t))) t ts (All-head FineTree t ts k env e h item is)
        (pass env e h ts (All-tail FineTree t ts k))

    -- without ids
    left : (w : RuleWitness) → IsFound w → IsLeft (bare_witness w)
    left w f =
        let env : Pairs = bare_env w.env in
        let gives : Gives env = bare_gives metas w.env f.gives in
        let has : HasAll rule metas are items g (is_free rule) env = λ x t m d. has_value-bare w.env x ∙ f.has x t m d in record {
          gives = gives;
          shows = subst (λ (n : ℕ). All Shows (flat_map (touches_in n env) (map bare_tree w.forest))) (sym f.at)
              (flat_touches Shows item env w.forest (pass env gives has w.forest (have_all FineTree w.forest f.fine)));
        }

    abbrev test : ℕ → Pairs → Bool
    test s e = holds rule.vars rule.tokens g (count_of g + 1) (formula_of rule) s (total e)

    choice_gives : (env e : Pairs) → IsShared env → IsChoice rule.exports env e → (s : ℕ) → s < count_of g → test s e ≡ true → Gives e
    choice_gives env e h c s lt holding x m v k = ⊎_elim
        (λ a.
        let b : bound (sure rule.vars rule.tokens) (formula_of rule) x ≡ true =
        all_among (bound (sure rule.vars rule.tokens) (formula_of rule)) rule.exports x ready.binds a in
        let t : is_term (total e x) ≡ true =
        (bound_law rule.vars rule.tokens g ok (count_of g + 1) (omega arith) (formula_of rule) ready.stand (block_law rule) s lt (total e) x
        (are.no_positions x m) (are.not_hidden x m)).0 b holding in
        ap (λ (o : Option Value). is_term (unwrap_or o (Place 0))) (sym k) ∙ t)
        (λ a. h.gives x m v (sym (c.others x a) ∙ k))
        (true_or_false (is_among rule.exports x))

    found_at : (env : Pairs) → IsShared env → (s : ℕ) → s < count_of g → (e : Pairs) → IsChoice rule.exports env e × (test s e ≡ true)
        → IsFound (witness_at rule.vars rule.tokens g (formula_of rule) rule.exports number item s e)
    found_at env h s lt e c = record {
      at = refl;
      gives = choice_gives env e h c.0 s lt c.1;
      has = λ x f m d. choice_has rule env e c.0 h.has x f d;
      fine = forest_fine rule metas are items g ok (formula_of rule) (pattern_law rule) ready.stand (block_law rule) (formula-guarded rule unbound)
          (is_free rule) (cover_law rule) s lt (total e);
    }

    at_node : (env : Pairs) → IsShared env → (s : ℕ) → s < count_of g
        → All IsFound (witnesses_at rule.vars rule.tokens g (formula_of rule) rule.exports number item s env)
    at_node env h s lt =
        let choice : List Pairs = choices (in_order (values_of g)) rule.exports env in
        map_each (λ e. IsChoice rule.exports env e × (test s e ≡ true)) IsFound
        (witness_at rule.vars rule.tokens g (formula_of rule) rule.exports number item s) (found_at env h s lt) (filter (test s) choice)
        (all_both (IsChoice rule.exports env) (λ e. test s e ≡ true) (filter (test s) choice)
        (All-filter (test s) (IsChoice rule.exports env) choice (are_choices (in_order (values_of g)) rule.exports env h.new))
        (filter_passes (test s) choice))

    in_graph : (env : Pairs) → IsShared env
        → All IsLeft (map bare_witness (witnesses_of rule.vars rule.tokens g (formula_of rule) rule.exports number item env))
    in_graph env h =
        map_each IsFound IsLeft bare_witness left (witnesses_of rule.vars rule.tokens g (formula_of rule) rule.exports number item env)
        (flat_each (λ n. n < count_of g) IsFound (λ s. witnesses_at rule.vars rule.tokens g (formula_of rule) rule.exports number item s env)
        (at_node env h) (numbers (count_of g)) (numbers_below (count_of g)))

  -- in the graph of an item as the rule sees it
  in_seen : (at : ℕ) (typed : Bool) → ask_types rule.vars ≡ typed → (item : Item) → slice_get items at ≡ Some item → HasGraph item → (env : Pairs)
      → IsShared env → All IsLeft (map bare_witness (witnesses_in number rule at (graph_in typed items at) env))
  in_seen at true asks (Parsed t) e ok env h =
      let scope = scope_of (take at items) in
      let is : graph_in true items at ≡ Some (typed_tree scope t) = ap (λ (o : Option Item). option_map (typed_tree scope) (item_tree o)) e in
      subst (λ (o : Option Flow). All IsLeft (map bare_witness (witnesses_in number rule at o env))) (sym is)
      (in_graph (typed_tree scope t) (typed-sound (graph_of t) (item_types scope t) ok) at (ap (λ (b : Bool). graph_in b items at) asks ∙ is) env h)
  in_seen at false asks (Parsed t) e ok env h =
      let is : graph_in false items at ≡ Some (graph_of t) = ap item_graph e in
      subst (λ (o : Option Flow). All IsLeft (map bare_witness (witnesses_in number rule at o env))) (sym is)
      (in_graph (graph_of t) ok at (ap (λ (b : Bool). graph_in b items at) asks ∙ is) env h)
  in_seen at true asks (Skipped span why) e ok env h =
      let scope = scope_of (take at items) in
      subst (λ (o : Option Item). All IsLeft (map bare_witness (witnesses_in number rule at (option_map (typed_tree scope) (item_tree o)) env))) (sym e)
      (All-nil IsLeft)
  in_seen at false asks (Skipped span why) e ok env h =
      subst (λ (o : Option Item). All IsLeft (map bare_witness (witnesses_in number rule at (item_graph o) env))) (sym e) (All-nil IsLeft)

  in_items : (at : ℕ) (more : List Item) → ((k : ℕ) → slice_get items (at + k) ≡ slice_get more k) → All HasGraph more → (env : Pairs)
      → IsShared env → All IsLeft (found_from number rule at (graphs_from (ask_types rule.vars) items at more) env)
  in_items at [] e ok env h = All-nil IsLeft
  in_items at (item ∷ more) e ok env h =
      let here : at ≡ at + 0 = omega arith in
      let next : (k : ℕ) → suc at + k ≡ at + suc k = λ k. omega arith in
      All-append IsLeft (map bare_witness (witnesses_in number rule at (seen_graph rule items at) env))
      (found_from number rule (suc at) (graphs_from (ask_types rule.vars) items (suc at) more) env)
      (in_seen at (ask_types rule.vars) refl item (ap (slice_get items) here ∙ e 0) (All-head HasGraph item more ok) env h)
      (in_items (suc at) more (λ k. ap (slice_get items) (next k) ∙ e (suc k)) (All-tail HasGraph item more ok) env h)

  module _ (ok : All HasGraph items) where
    under : (env : Pairs) → IsShared env → All IsLeft (found_under number rule items env)
    under env h =
        let same : (k : ℕ) → 0 + k ≡ k = λ k. omega arith in
        in_items 0 items (λ k. ap (slice_get items) (same k)) ok env h

    brought : (env : Pairs) → IsShared env → All Gives (brings number rule items env)
    brought env h =
        let envs : List Pairs = map (λ (w : RuleWitness). w.env) (found_under number rule items env) in
        distinct_all Gives (map (restricted rule.exports) envs)
        (map_each Gives Gives (restricted rule.exports) (restricted_gives metas rule.exports) envs
        (map_each IsLeft Gives (λ (w : RuleWitness). w.env) left_gives (found_under number rule items env) (under env h)))

    -- ---- what environments share with the rule

    module _ (defined : List (List ℕ)) (had : List ℕ) where
      abbrev SomeHas : Option Pairs → Type 0
      SomeHas None = Unit {0}
      SomeHas (Some env) = IsShared env

      abbrev part : FileEnv → Option Pairs
      part c = share defined had rule.depends (inherited_of rule) c

      share_by : (c : FileEnv) → CarriesTerms metas c → (b : Bool) → takes_part defined had rule.depends (inherited_of rule) c ≡ b
          → SomeHas (cond b (Some (restricted (inherited_of rule) c.env)) None)
      share_by c h true e = record {
        gives = restricted_gives metas (inherited_of rule) c.env h;
        has = λ x a. restricted-has metas (inherited_of rule) c.env x a
            (all_among (has_value c.env) (inherited_of rule) x
            (and_right (judge c.rules had defined rule.depends) (list_all (has_value c.env) (inherited_of rule)) e) a);
        new = are_new rule.exports (inherited_of rule) ready.apart c.env;
      }
      share_by c h false e = tt

      share_has : (c : FileEnv) → CarriesTerms metas c → SomeHas (part c)
      share_has c h = share_by c h (takes_part defined had rule.depends (inherited_of rule) c) refl

      cons_has : (o : Option Pairs) (envs : List Pairs) → SomeHas o → All IsShared envs → All IsShared (cons_option o envs)
      cons_has None envs h k = k
      cons_has (Some env) envs h k = All-cons IsShared env envs h k

      shares_have : (file_envs : List FileEnv) → All (CarriesTerms metas) file_envs → All IsShared (filter_map part file_envs)
      shares_have [] h = All-nil IsShared
      shares_have (c ∷ file_envs) h =
          cons_has (part c) (filter_map part file_envs) (share_has c (All-head (CarriesTerms metas) c file_envs h))
          (shares_have file_envs (All-tail (CarriesTerms metas) c file_envs h))

      pub all_show : (file_envs : List FileEnv) → All (CarriesTerms metas) file_envs
          → All Shows (touches (rule_found defined had number rule items file_envs))
      all_show file_envs h =
          flat_each IsLeft Shows touches_of left_shows (rule_found defined had number rule items file_envs)
          (flat_each IsShared IsLeft (found_under number rule items) under (projections defined had rule.depends (inherited_of rule) file_envs)
          (distinct_all IsShared (filter_map part file_envs) (shares_have file_envs h)))

      -- ---- the environments after the rule

      replaced_c : (c : FileEnv) (parts : List Pairs) → CarriesTerms metas c → All Gives parts → All (CarriesTerms metas) (replaced number c parts)
      replaced_c c [] h k = All-cons (CarriesTerms metas) c [] h (All-nil (CarriesTerms metas))
      replaced_c c (p ∷ parts) h k =
          map_each Gives (CarriesTerms metas) (extended number c) (λ env e. joined_gives metas c.env env h e) (p ∷ parts) k

      becomes_c : (c : FileEnv) (o : Option Pairs) → CarriesTerms metas c → SomeHas o
          → All (CarriesTerms metas) (becomes_by number part (brings number rule items) c o)
      becomes_c c None h k = All-cons (CarriesTerms metas) c [] h (All-nil (CarriesTerms metas))
      becomes_c c (Some env) h k = replaced_c c (brings number rule items env) h (brought env k)

      pub all_carried : (file_envs : List FileEnv) → All (CarriesTerms metas) file_envs
          → All (CarriesTerms metas) (file_envs_after defined had number rule items file_envs)
      all_carried file_envs h =
          flat_each (CarriesTerms metas) (CarriesTerms metas) (λ c. becomes_by number part (brings number rule items) c (part c))
          (λ c k. becomes_c c (part c) k (share_has c k)) file_envs h
