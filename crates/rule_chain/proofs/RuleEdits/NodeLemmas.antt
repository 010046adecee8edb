-- What edits need of the graphs, one item after another.
use Rattle.std.proofs.Common.{◌≡◌, ◌<◌, ◌≤◌, ◌+◌, ℕ, suc, Bool, sym, ap, ◌∙◌, subst, arith, None, List, [], ◌∷◌, ◌++◌, length, map, drop, drop-cons, ⊎_elim}
use Rattle.std.proofs.lemmas.Bool.{cases_lt}
use Rattle.std.proofs.lemmas.List.{append_assoc, append-nil, drop_all}
use Rattle.cpp_lines.specs.declared.reading.Item.{Item}
use Rattle.c_file.specs.ItemGraphs.Pool.{Pool}
use Rattle.c_file.specs.ItemGraphs.Made.{IsMade}
use Rattle.c_file.proofs.ItemGraphs.GraphLemmas.{graph_count, graph_or}
use Rattle.smpl_patch.specs.Wants.{ask_types}
use Rattle.smpl_patch.specs.declared.rule.Rule.{Rule}
use Rattle.edit_marks.specs.declared.edit_walk.nodes.ItemNodes.{ItemNodes}
use Rattle.rule_chain.specs.FileWitnesses.Seen.{seen_graphs}
use Rattle.rule_chain.specs.RuleEdits.Nodes.{graph_nodes, nodes_of, nodes_at}

module _ (rule : Rule) (items : List Item) where
  -- what edits need of the items from this one on
  abbrev pub nodes_from : ℕ → List ItemNodes
  nodes_from i = map graph_nodes (drop i (seen_graphs rule items))

  next_nodes : (i : ℕ) → i < length items → nodes_from i ≡ nodes_at rule items i ∷ nodes_from (i + 1)
  next_nodes i lt =
      let below : i < length (seen_graphs rule items) = omega (arith, lt, graph_count (ask_types rule.vars) items) in
      let one : i + 1 ≡ suc i = omega arith in
      ap (map graph_nodes) (drop-cons (seen_graphs rule items) i None below)
      ∙ ap (λ g. graph_nodes g ∷ nodes_from (suc i)) (graph_or (ask_types rule.vars) items i lt)
      ∙ ap (λ n. nodes_at rule items i ∷ nodes_from n) (sym one)

  -- one more item
  pub nodes_more : (i : ℕ) (done : List ItemNodes) (here : ItemNodes) → i < length items → here ≡ nodes_at rule items i
      → done ++ nodes_from i ≡ nodes_of rule items → (done ++ here ∷ []) ++ nodes_from (i + 1) ≡ nodes_of rule items
  nodes_more i done here lt is h =
      append_assoc done (here ∷ []) (nodes_from (i + 1))
      ∙ ap (λ x. done ++ x ∷ nodes_from (i + 1)) is
      ∙ ap (λ xs. done ++ xs) (sym (next_nodes i lt)) ∙ h

  -- all items
  pub nodes_all : (i : ℕ) (done : List ItemNodes) → length items ≤ i → done ++ nodes_from i ≡ nodes_of rule items → done ≡ nodes_of rule items
  nodes_all i done all h =
      let past : length (seen_graphs rule items) ≤ i = omega (arith, all, graph_count (ask_types rule.vars) items) in
      sym (append-nil done) ∙ ap (λ gs. done ++ map graph_nodes gs) (sym (drop_all i (seen_graphs rule items) past)) ∙ h

-- one more graph is made, and those that are made stay
pub made_more : (old new : Pool) (typed : Bool) (i : ℕ) → ((k : ℕ) → k < i → IsMade old typed k)
    → ((t : Bool) (k : ℕ) → IsMade old t k → IsMade new t k) → IsMade new typed i → (k : ℕ) → k < i + 1 → IsMade new typed k
made_more old new typed i made kept here k lt =
    ⊎_elim (λ below. kept typed k (made k below))
    (λ (above : i ≤ k). let is : i ≡ k = omega (arith, lt, above) in subst (λ (n : ℕ). IsMade new typed n) is here) (cases_lt k i)
