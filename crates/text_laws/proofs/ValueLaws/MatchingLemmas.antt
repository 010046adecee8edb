-- The values that a rule finds over items are places, or terms of tokens of C, and so are those of the environments after it.
use Rattle.std.proofs.Common.{◌≡◌, ℕ, suc, Bool, true, false, cond, ◌+◌, sym, ap, ◌∙◌, subst, arith, List, [], ◌∷◌, map, Option, None, Some}
use Rattle.std.specs.Prelude.{slice_get, take}
use Rattle.std.specs.Option.{option_map}
use Rattle.std.specs.Prelude.{All}
use Rattle.std.specs.List.{filter, flat_map, filter_map, cons_option}
use Rattle.std.proofs.lemmas.List.Elements.{All-nil, All-cons, All-head, All-tail, All-append, All-filter}
use Rattle.c_terms.specs.declared.tree.Tree.{Tree}
use Rattle.c_terms.specs.Trees.{leaves}
use Rattle.c_lexer.specs.Pieces.{TextPiece}
use Rattle.cpp_lines.specs.declared.reading.Item.{Item}
use Rattle.cpp_lines.specs.declared.reading.Item.TheVariants.{Parsed, Skipped}
use Rattle.cfg_build.specs.CfgGraph.Flow.{Flow, count_of}
use Rattle.cfg_build.specs.Graphs.{graph_of}
use Rattle.c_file.specs.Fit.{item_graph}
use Rattle.c_file.specs.ItemGraphs.Trees.{item_tree}
use Rattle.c_file.specs.ItemGraphs.Typed.{scope_of, typed_tree, graph_in, graphs_from}
use Rattle.smpl_patch.specs.Wants.{ask_types}
use Rattle.smpl_terms.specs.Environments.{total}
use Rattle.smpl_patch.specs.declared.rule.Rule.{Rule}
use Rattle.smpl_patch.specs.declared.witness.RuleWitness.{RuleWitness}
use Rattle.ctl_translate.specs.Rules.{formula_of}
use Rattle.ctl_fixpoint.specs.CtlHolds.Values.{values_of}
use Rattle.ctl_fixpoint.specs.CtlHolds.Rounds.{holds}
use Rattle.wit_forest.specs.WitTrees.Forest.{numbers}
use Rattle.wit_forest.specs.WitTrees.Graphs.{world_of}
use Rattle.wit_forest.specs.WitTrees.Rules.{in_order, choices, witness_at, witnesses_at, witnesses_of}
use Rattle.edit_marks.specs.Plain.{AreCTokens}
use Rattle.text_laws.specs.ReadingLaws.Sound.{IsSoundItem}
use Rattle.env_parts.specs.Parts.{Pairs, restricted}
use Rattle.rule_chain.specs.RuleWitnesses.Bare.{bare_witness}
use Rattle.rule_envs.specs.declared.file_env.FileEnv.{FileEnv}
use Rattle.rule_envs.specs.Inherited.{inherited_of}
use Rattle.rule_envs.specs.Shares.{takes_part, share, projections}
use Rattle.rule_envs.specs.FileEnvs.{extended, replaced, becomes_by}
use Rattle.rule_chain.specs.FileWitnesses.Seen.{seen_graph}
use Rattle.rule_chain.specs.FileWitnesses.Found.{witnesses_in, found_from, found_under, brings}
use Rattle.rule_chain.specs.RuleMatches.Matching.{rule_found, file_envs_after}
use Rattle.text_laws.specs.OutputLaws.Values.{AreCValues}
use Rattle.text_laws.specs.Sound.{HaveCValues, HasCTerms}
use Rattle.text_laws.specs.ValueLaws.Carried.{CarriesTerms}
use Rattle.text_laws.proofs.ValueLaws.EnvLemmas.{order_c, choices_c, restricted_c, joined_c, distinct_c}
use Rattle.text_laws.proofs.ValueLaws.ForestLemmas.{HaveBinds, flat_binds, forest_b}
use Rattle.text_laws.proofs.ValueLaws.BareLemmas.{env_stays, forest_stays}

flat_all : {A B : Type 0} (P : B → Type 0) (f : A → List B) → ((a : A) → All P (f a)) → (xs : List A) → All P (flat_map f xs)
flat_all P f g [] = All-nil P
flat_all P f g (a ∷ xs) = All-append P (f a) (flat_map f xs) (g a) (flat_all P f g xs)

flat_each : {A B : Type 0} (Q : A → Type 0) (P : B → Type 0) (f : A → List B) → ((a : A) → Q a → All P (f a)) → (xs : List A) → All Q xs
    → All P (flat_map f xs)
flat_each Q P f g [] h = All-nil P
flat_each Q P f g (a ∷ xs) h = All-append P (f a) (flat_map f xs) (g a (All-head Q a xs h)) (flat_each Q P f g xs (All-tail Q a xs h))

map_each : {A B : Type 0} (Q : A → Type 0) (P : B → Type 0) (f : A → B) → ((a : A) → Q a → P (f a)) → (xs : List A) → All Q xs → All P (map f xs)
map_each Q P f g [] h = All-nil P
map_each Q P f g (a ∷ xs) h = All-cons P (f a) (map f xs) (g a (All-head Q a xs h)) (map_each Q P f g xs (All-tail Q a xs h))

abbrev IsFound : RuleWitness → Type 0
IsFound w = HaveCValues w.env × HaveBinds w.forest

bare_found : (w : RuleWitness) → IsFound w → IsFound (bare_witness w)
bare_found w h = (env_stays w.env h.0, forest_stays w.forest h.1)

found_terms : (w : RuleWitness) → IsFound w → HasCTerms w
found_terms w h = (h.0, flat_binds w.forest h.1)

found_env : (w : RuleWitness) → IsFound w → HaveCValues w.env
found_env w h = h.0

-- ---- witnesses in one item

module _ (number : ℕ) (rule : Rule) where
  at_node : (g : Flow) (item : ℕ) → AreCValues (values_of g) → (env : Pairs) → HaveCValues env → (s : ℕ)
      → All IsFound (witnesses_at rule.vars rule.tokens g (formula_of rule) rule.exports number item s env)
  at_node g item c env h s =
      let test : Pairs → Bool = λ e. holds rule.vars rule.tokens g (count_of g + 1) (formula_of rule) s (total e) in
      let choice : List Pairs = choices (in_order (values_of g)) rule.exports env in
      map_each HaveCValues IsFound (witness_at rule.vars rule.tokens g (formula_of rule) rule.exports number item s)
      (λ e k. (k, forest_b (world_of rule.vars rule.tokens g) c (formula_of rule) s (total e))) (filter test choice)
      (All-filter test HaveCValues choice (choices_c (in_order (values_of g)) rule.exports env (order_c (values_of g) c) h))

  in_graph : (g : Flow) (item : ℕ) → AreCValues (values_of g) → (env : Pairs) → HaveCValues env
      → All IsFound (witnesses_of rule.vars rule.tokens g (formula_of rule) rule.exports number item env)
  in_graph g item c env h =
      flat_all IsFound (λ s. witnesses_at rule.vars rule.tokens g (formula_of rule) rule.exports number item s env) (at_node g item c env h)
      (numbers (count_of g))

abbrev pub ValueLaw : Type 0
ValueLaw = (t : Tree) → AreCTokens (leaves t) → AreCValues (values_of (graph_of t))

module _ (law : ValueLaw) (pieces : List TextPiece) (number : ℕ) (rule : Rule) where
  -- in the graph of an item as a rule sees it, with or without types: the values are those of the graph without
  in_seen : (items : List Item) (at : ℕ) (typed : Bool) (item : Item) → slice_get items at ≡ Some item → IsSoundItem pieces item → (env : Pairs)
      → HaveCValues env → All IsFound (witnesses_in number rule at (graph_in typed items at) env)
  in_seen items at true (Parsed t) e sound env h =
      let scope = scope_of (take at items) in
      subst (λ (o : Option Item). All IsFound (witnesses_in number rule at (option_map (typed_tree scope) (item_tree o)) env)) (sym e)
      (in_graph number rule (typed_tree scope t) at (law t sound.0) env h)
  in_seen items at false (Parsed t) e sound env h =
      subst (λ (o : Option Item). All IsFound (witnesses_in number rule at (item_graph o) env)) (sym e)
      (in_graph number rule (graph_of t) at (law t sound.0) env h)
  in_seen items at true (Skipped span why) e sound env h =
      let scope = scope_of (take at items) in
      subst (λ (o : Option Item). All IsFound (witnesses_in number rule at (option_map (typed_tree scope) (item_tree o)) env)) (sym e) (All-nil IsFound)
  in_seen items at false (Skipped span why) e sound env h =
      subst (λ (o : Option Item). All IsFound (witnesses_in number rule at (item_graph o) env)) (sym e) (All-nil IsFound)

  in_items : (items : List Item) (at : ℕ) (more : List Item) → ((k : ℕ) → slice_get items (at + k) ≡ slice_get more k)
      → All (IsSoundItem pieces) more → (env : Pairs) → HaveCValues env
      → All IsFound (found_from number rule at (graphs_from (ask_types rule.vars) items at more) env)
  in_items items at [] same sound env h = All-nil IsFound
  in_items items at (item ∷ more) same sound env h =
      let here : List RuleWitness = witnesses_in number rule at (seen_graph rule items at) env in
      let now : at ≡ at + 0 = omega arith in
      let next : (k : ℕ) → suc at + k ≡ at + suc k = λ k. omega arith in
      All-append IsFound (map bare_witness here) (found_from number rule (suc at) (graphs_from (ask_types rule.vars) items (suc at) more) env)
      (map_each IsFound IsFound bare_witness bare_found here
      (in_seen items at (ask_types rule.vars) item (ap (slice_get items) now ∙ same 0) (All-head (IsSoundItem pieces) item more sound) env h))
      (in_items items (suc at) more (λ k. ap (slice_get items) (next k) ∙ same (suc k)) (All-tail (IsSoundItem pieces) item more sound) env h)

  module _ (items : List Item) (sound : All (IsSoundItem pieces) items) where
    under : (env : Pairs) → HaveCValues env → All IsFound (found_under number rule items env)
    under env h =
        let same : (k : ℕ) → 0 + k ≡ k = λ k. omega arith in in_items items 0 items (λ k. ap (slice_get items) (same k)) sound env h

    brought : (env : Pairs) → HaveCValues env → All HaveCValues (brings number rule items env)
    brought env h =
        let envs : List Pairs = map (λ (w : RuleWitness). w.env) (found_under number rule items env) in
        distinct_c (map (restricted rule.exports) envs)
        (map_each HaveCValues HaveCValues (restricted rule.exports) (restricted_c rule.exports) envs
        (map_each IsFound HaveCValues (λ (w : RuleWitness). w.env) found_env (found_under number rule items env) (under env h)))

    -- ---- what environments share with the rule

    module _ (defined : List (List ℕ)) (had : List ℕ) where
      abbrev SomeHas : Option Pairs → Type 0
      SomeHas None = Unit {0}
      SomeHas (Some env) = HaveCValues env

      abbrev part : FileEnv → Option Pairs
      part c = share defined had rule.depends (inherited_of rule) c

      share_by : (b : Bool) (env : Pairs) → HaveCValues env → SomeHas (cond b (Some env) None)
      share_by true env h = h
      share_by false env h = tt

      share_has : (c : FileEnv) → CarriesTerms c → SomeHas (part c)
      share_has c h =
          share_by (takes_part defined had rule.depends (inherited_of rule) c) (restricted (inherited_of rule) c.env) (restricted_c (inherited_of rule) c.env h)

      cons_has : (o : Option Pairs) (envs : List Pairs) → SomeHas o → All HaveCValues envs → All HaveCValues (cons_option o envs)
      cons_has None envs h k = k
      cons_has (Some env) envs h k = All-cons HaveCValues env envs h k

      shares_have : (file_envs : List FileEnv) → All CarriesTerms file_envs → All HaveCValues (filter_map part file_envs)
      shares_have [] h = All-nil HaveCValues
      shares_have (c ∷ file_envs) h =
          cons_has (part c) (filter_map part file_envs) (share_has c (All-head CarriesTerms c file_envs h))
          (shares_have file_envs (All-tail CarriesTerms c file_envs h))

      pub all_found : (file_envs : List FileEnv) → All CarriesTerms file_envs → All HasCTerms (rule_found defined had number rule items file_envs)
      all_found file_envs h =
          flat_each HaveCValues HasCTerms (found_under number rule items)
          (λ env k. terms_of (found_under number rule items env) (under env k)) (projections defined had rule.depends (inherited_of rule) file_envs)
          (distinct_c (filter_map part file_envs) (shares_have file_envs h))
        where
          terms_of : (ws : List RuleWitness) → All IsFound ws → All HasCTerms ws
          terms_of [] k = All-nil HasCTerms
          terms_of (w ∷ ws) k = All-cons HasCTerms w ws (found_terms w (All-head IsFound w ws k)) (terms_of ws (All-tail IsFound w ws k))

      -- ---- the environments after the rule

      replaced_c : (c : FileEnv) (parts : List Pairs) → CarriesTerms c → All HaveCValues parts → All CarriesTerms (replaced number c parts)
      replaced_c c [] h k = All-cons CarriesTerms c [] h (All-nil CarriesTerms)
      replaced_c c (p ∷ parts) h k =
          map_each HaveCValues CarriesTerms (extended number c) (λ env e. joined_c c.env env h e) (p ∷ parts) k

      becomes_c : (c : FileEnv) (o : Option Pairs) → CarriesTerms c → SomeHas o
          → All CarriesTerms (becomes_by number part (brings number rule items) c o)
      becomes_c c None h k = All-cons CarriesTerms c [] h (All-nil CarriesTerms)
      becomes_c c (Some env) h k = replaced_c c (brings number rule items env) h (brought env k)

      pub all_carried : (file_envs : List FileEnv) → All CarriesTerms file_envs → All CarriesTerms (file_envs_after defined had number rule items file_envs)
      all_carried file_envs h =
          flat_each CarriesTerms CarriesTerms (λ c. becomes_by number part (brings number rule items) c (part c))
          (λ c k. becomes_c c (part c) k (share_has c k)) file_envs h
