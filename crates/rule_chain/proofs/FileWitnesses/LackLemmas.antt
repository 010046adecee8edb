-- Nothing is found in an item that lacks a word which the rule's formula needs.
use Rattle.std.proofs.Common.{◌≡◌, ◌<◌, ◌+◌, ◌^◌, ℕ, zero, suc, Bool, true, false, not, refl, sym, ap, ap₂, ◌∙◌, arith, Option}
use Rattle.std.proofs.Common.{None, Some, IfSome, List, [], ◌∷◌, ◌++◌, map}
use Rattle.std.specs.Prelude.{slice_get, take}
use Rattle.std.specs.Option.{option_map}
use Rattle.std.specs.List.{filter, flat_map}
use Rattle.std.proofs.lemmas.List.Concat.{flat_map-append}
use Rattle.c_terms.specs.declared.tree.Tree.{Tree}
use Rattle.c_terms.proofs.SameLaws.{bytes-refl}
use Rattle.c_terms.specs.Same.{same_bytes}
use Rattle.cpp_lines.specs.declared.reading.Item.{Item}
use Rattle.cpp_lines.specs.declared.reading.Item.TheVariants.{Parsed, Skipped}
use Rattle.c_types.specs.Tables.{ItemTypes, no_types}
use Rattle.c_typing.specs.ItemTypes.{item_types}
use Rattle.cfg_build.specs.CfgGraph.Flow.{count_of, with_types}
use Rattle.cfg_build.specs.Graphs.{node_count, graph_of}
use Rattle.c_file.specs.Fit.{item_graph}
use Rattle.c_file.specs.ItemGraphs.Typed.{typed_tree, scope_of, graph_in}
use Rattle.smpl_terms.specs.declared.var.Var.{Var}
use Rattle.smpl_terms.specs.declared.value.Value.{Value}
use Rattle.smpl_terms.specs.Environments.{total}
use Rattle.smpl_patch.specs.declared.rule.Rule.{Rule}
use Rattle.ctl_formula.specs.Formulas.{FormulaOf, plain}
use Rattle.ctl_fixpoint.specs.CtlHolds.Rounds.{holds}
use Rattle.ctl_fixpoint.specs.CtlHolds.Values.{values_of}
use Rattle.ctl_fixpoint.proofs.CtlHolds.TestLemmas.{any_has, all_lacks}
use Rattle.ctl_translate.specs.Answers.{IsFormulaOf}
use Rattle.ctl_translate.specs.Rules.{formula_of}
use Rattle.wit_forest.specs.WitTrees.Forest.{numbers}
use Rattle.wit_forest.specs.WitTrees.Rules.{witness_at, choices, in_order}
use Rattle.env_parts.specs.Parts.{Pairs}
use Rattle.c_file.specs.ItemGraphs.Trees.{item_tree}
use Rattle.ctl_fixpoint.specs.RequiredWords.Words.{needs, has_word, has_words}
use Rattle.ctl_fixpoint.proofs.RequiredWords.HoldWords.{holds_no}
use Rattle.smpl_patch.specs.Wants.{ask_types}
use Rattle.rule_chain.specs.FileWitnesses.Seen.{seen_graph}
use Rattle.rule_chain.specs.FileWitnesses.Found.{witnesses_in}
use Rattle.rule_chain.specs.FileWitnesses.Lacking.{AreNeeded, misses}

filter_none : {X : Type 0} (q : X → Bool) (xs : List X) → ((x : X) → q x ≡ false) → filter q xs ≡ []
filter_none q [] h = refl
filter_none q (x ∷ xs) h = rw (h x) (filter_none q xs h)

flat_none : {X : Type 0} (f : ℕ → List X) (n : ℕ) → ((s : ℕ) → s < n → f s ≡ []) → flat_map f (numbers n) ≡ []
flat_none f zero h = refl
flat_none f (suc n) h =
    flat_map-append f (numbers n) (n ∷ [])
    ∙ ap₂ (λ a b. a ++ (b ++ [])) (flat_none f n (λ s lt. h s (omega (arith, lt)))) (h n (omega arith))

not_false : (b : Bool) → not b ≡ true → b ≡ false
not_false true h = absurd (cc)
not_false false h = refl

-- nothing is found in an item that lacks one word that the rule's formula needs, whatever is known of types
module _ (number : ℕ) (rule : Rule) (w : List ℕ) (needed : needs w (formula_of rule) ≡ true) (item : ℕ) (env : Pairs) where
  no_witness : (t : Tree) (types : ItemTypes) → node_count t < 2 ^ 32 → has_word w t ≡ false
      → witnesses_in number rule item (Some (with_types (graph_of t) types)) env ≡ []
  no_witness t types few h =
      let g = with_types (graph_of t) types in
      flat_none
      (λ s. map (witness_at rule.vars rule.tokens g (formula_of rule) rule.exports number item s)
      (filter (λ (e : List (Var × Value)). holds rule.vars rule.tokens g (count_of g + 1) (formula_of rule) s (total e))
      (choices (in_order (values_of g)) rule.exports env)))
      (count_of g)
      (λ s lt. ap (map (witness_at rule.vars rule.tokens g (formula_of rule) rule.exports number item s))
      (filter_none (λ (e : List (Var × Value)). holds rule.vars rule.tokens g (count_of g + 1) (formula_of rule) s (total e))
      (choices (in_order (values_of g)) rule.exports env)
      (λ e. holds_no w rule.vars rule.tokens t types few h (count_of g + 1) (formula_of rule) needed s lt (total e))))

  nothing_by : (items : List Item) (i : ℕ) (typed : Bool) (o : Option Item) → slice_get items i ≡ o
      → IfSome (item_tree o) (λ t. (node_count t < 2 ^ 32) × (has_word w t ≡ false)) → witnesses_in number rule item (graph_in typed items i) env ≡ []
  nothing_by items i true None e lacks =
      ap (λ (o : Option Item). witnesses_in number rule item (option_map (typed_tree (scope_of (take i items))) (item_tree o)) env) e
  nothing_by items i false None e lacks = ap (λ (o : Option Item). witnesses_in number rule item (item_graph o) env) e
  nothing_by items i true (Some (Parsed t)) e lacks =
      ap (λ (o : Option Item). witnesses_in number rule item (option_map (typed_tree (scope_of (take i items))) (item_tree o)) env) e
      ∙ no_witness t (item_types (scope_of (take i items)) t) lacks.0 lacks.1
  nothing_by items i false (Some (Parsed t)) e lacks =
      ap (λ (o : Option Item). witnesses_in number rule item (item_graph o) env) e ∙ no_witness t no_types lacks.0 lacks.1
  nothing_by items i true (Some (Skipped span why)) e lacks =
      ap (λ (o : Option Item). witnesses_in number rule item (option_map (typed_tree (scope_of (take i items))) (item_tree o)) env) e
  nothing_by items i false (Some (Skipped span why)) e lacks = ap (λ (o : Option Item). witnesses_in number rule item (item_graph o) env) e

  -- an item that is skipped has no tree
  pub nothing_without : (items : List Item) (i : ℕ)
      → IfSome (item_tree (slice_get items i)) (λ t. (node_count t < 2 ^ 32) × (has_word w t ≡ false))
      → witnesses_in number rule item (seen_graph rule items i) env ≡ []
  nothing_without items i lacks = nothing_by items i (ask_types rule.vars) (slice_get items i) refl lacks

-- the same of words that are kept of the rule
module _ (number : ℕ) (rule : Rule) (f : FormulaOf) (is : IsFormulaOf rule f) (words : List (List ℕ)) (needed : AreNeeded words f)
    (item : ℕ) (env : Pairs) where
  lacking : (o : Option Tree) → IfSome o (λ t. node_count t < 2 ^ 32) → misses words o ≡ true
      → (w : List ℕ) × ((needs w (formula_of rule) ≡ true) × IfSome o (λ t. (node_count t < 2 ^ 32) × (has_word w t ≡ false)))
  lacking None few h = absurd (cc)
  lacking (Some t) few h =
      let k = all_lacks (λ w. has_word w t) words (not_false (has_words words t) h) in
      let n : needs k.0 (plain f) ≡ true = needed k.0 (any_has (λ x. same_bytes x k.0) k.0 words k.1 (bytes-refl k.0)) in
      (k.0, (ap (needs k.0) (sym is.formula) ∙ n, (few, k.2)))

  pub nothing_found : (items : List Item) (i : ℕ) → IfSome (item_tree (slice_get items i)) (λ t. node_count t < 2 ^ 32)
      → misses words (item_tree (slice_get items i)) ≡ true → witnesses_in number rule item (seen_graph rule items i) env ≡ []
  nothing_found items i few h =
      let l = lacking (item_tree (slice_get items i)) few h in
      nothing_without number rule l.0 l.1.0 item env items i l.1.1
