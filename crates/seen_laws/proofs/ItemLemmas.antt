-- What a rule finds in the items of a file: the same in their graphs with types and in those without.
use Rattle.std.proofs.Common.{◌≡◌, ℕ, suc, true, false, refl, sym, ◌∙◌, List, [], ◌∷◌, ◌++◌, map, Option, None, Some, slice_get}
use Rattle.std.specs.Option.{option_map}
use Rattle.c_typing.specs.declared.scope.Scope.{Scope}
use Rattle.c_typing.specs.ItemTypes.{item_types}
use Rattle.cfg_build.specs.CfgGraph.Flow.{Flow, with_types}
use Rattle.cfg_build.specs.Graphs.{graph_of}
use Rattle.cpp_lines.specs.declared.reading.Item.{Item}
use Rattle.cpp_lines.specs.declared.reading.Item.TheVariants.{Parsed, Skipped}
use Rattle.c_file.specs.Fit.{item_graph}
use Rattle.c_file.specs.ItemGraphs.Trees.{item_tree}
use Rattle.c_file.specs.ItemGraphs.Typed.{scope_of, typed_tree, graph_in, graphs_from, all_graphs}
use Rattle.c_types.specs.Tables.{ItemTypes}
use Rattle.env_parts.specs.Parts.{Pairs}
use Rattle.ctl_translate.specs.Rules.{formula_of}
use Rattle.smpl_patch.specs.declared.rule.Rule.{Rule}
use Rattle.smpl_patch.specs.Wants.{ask_types}
use Rattle.rule_chain.specs.RuleWitnesses.Bare.{bare_witness}
use Rattle.rule_chain.specs.FileWitnesses.Found.{witnesses_in, found_from, found_under}
use Rattle.std.specs.Prelude.{take}
use Rattle.seen_laws.proofs.GraphLemmas.{witnesses_same}

module _ (number : ℕ) (rule : Rule) (none : ask_types rule.vars ≡ false) where
  pub graph_same : (g : Flow) (types : ItemTypes) (item : ℕ) (env : Pairs)
      → witnesses_in number rule item (Some (with_types g types)) env ≡ witnesses_in number rule item (Some g) env
  graph_same g types item env = witnesses_same g types rule.vars none rule.tokens (formula_of rule) rule.exports number item env

  read_same : (s : Scope) (read : Option Item) (item : ℕ) (env : Pairs)
      → witnesses_in number rule item (option_map (typed_tree s) (item_tree read)) env ≡ witnesses_in number rule item (item_graph read) env
  read_same s None item env = refl
  read_same s (Some (Parsed t)) item env = graph_same (graph_of t) (item_types s t) item env
  read_same s (Some (Skipped span why)) item env = refl

  pub item_same : (items : List Item) (item : ℕ) (env : Pairs)
      → witnesses_in number rule item (graph_in true items item) env ≡ witnesses_in number rule item (graph_in false items item) env
  item_same items item env = read_same (scope_of (take item items)) (slice_get items item) item env

  from_same : (items : List Item) (at : ℕ) (more : List Item) (env : Pairs)
      → found_from number rule at (graphs_from true items at more) env ≡ found_from number rule at (graphs_from false items at more) env
  from_same items at [] env = refl
  from_same items at (item ∷ more) env =
      λ i. map bare_witness (item_same items at env i) ++ from_same items (suc at) more env i

  pub file_same : (items : List Item) (env : Pairs) → found_from number rule 0 (all_graphs true items) env ≡ found_under number rule items env
  file_same items env = from_same items 0 items env ∙ (λ i. found_from number rule 0 (all_graphs (sym none i) items) env)
