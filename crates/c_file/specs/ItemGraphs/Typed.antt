-- The graphs of a file's items with the types of their expressions.
use Rattle.std.specs.Prelude.{ℕ, suc, ◌≡◌, ◌≤◌, Bool, Option, List, [], ◌∷◌, fold, length, take, slice_get, if◌then◌else◌}
use Rattle.std.specs.Option.{option_map}
use Rattle.c_terms.specs.declared.tree.Tree.{Tree}
use Rattle.c_typing.specs.declared.scope.Scope.{Scope}
use Rattle.c_typing.specs.Scopes.{no_declarations, with_item}
use Rattle.c_typing.specs.ItemTypes.{item_types}
use Rattle.cfg_build.specs.CfgGraph.Flow.{Flow, with_types}
use Rattle.cfg_build.specs.Graphs.{graph_of}
use Rattle.cpp_lines.specs.declared.reading.Item.{Item}
use Rattle.cpp_lines.specs.declared.reading.Item.TheVariants.{Parsed, Skipped}
use Rattle.c_file.specs.declared.item_graphs.reached.Reached.{Reached}
use Rattle.c_file.specs.Fit.{item_graph}
use Rattle.c_file.specs.ItemGraphs.Trees.{item_tree}

-- an item that was skipped declares nothing
abbrev pub with_read : Scope → Item → Scope
with_read s (Parsed t) = with_item s t
with_read s (Skipped span why) = s

-- what these items have declared
abbrev pub scope_of : List Item → Scope
scope_of items = fold with_read no_declarations items

-- what is declared before the next item
pub record IsReached (items : List Item) (reached : Reached) : Type 0 where
  pub within : reached.next ≤ length items
  pub scope_is : reached.scope ≡ scope_of (take reached.next items)

-- the graph of a tree with the types of its expressions, under what the items before it have declared
abbrev pub typed_tree : Scope → Tree → Flow
typed_tree s t = with_types (graph_of t) (item_types s t)

-- the graph of an item with the types of its expressions, if the item has a tree
abbrev pub typed_graph : List Item → ℕ → Option Flow
typed_graph items i = option_map (typed_tree (scope_of (take i items))) (item_tree (slice_get items i))

-- the graph of an item, with or without types
abbrev pub graph_in : Bool → List Item → ℕ → Option Flow
graph_in typed items i = if typed then typed_graph items i else item_graph (slice_get items i)

abbrev pub graphs_from : Bool → List Item → ℕ → List Item → List (Option Flow)
graphs_from typed items at [] = []
graphs_from typed items at (item ∷ more) = graph_in typed items at ∷ graphs_from typed items (suc at) more

-- the graphs of all items, with or without types
abbrev pub all_graphs : Bool → List Item → List (Option Flow)
all_graphs typed items = graphs_from typed items 0 items
