-- What edits need of the graphs of items.
use Rattle.std.specs.Prelude.{ℕ, Option, None, Some, List, [], map, slice_get, option_and_then}
use Rattle.std.specs.Option.{option_map_or}
use Rattle.c_types.specs.Tables.{ItemTypes, no_types}
use Rattle.cfg_build.specs.declared.cfg_graph.label.NodeKind.{NodeKind}
use Rattle.cfg_build.specs.CfgGraph.Flow.{Flow}
use Rattle.edit_marks.specs.declared.edit_walk.nodes.ItemNodes.{ItemNodes}

-- an item that is skipped has no nodes
abbrev pub no_nodes : ItemNodes
no_nodes = record { kinds = []; types = no_types }

-- the kinds of a graph's nodes, and what is known of the types of the item's expressions
abbrev pub nodes_in : Flow → ItemNodes
nodes_in g = record { kinds = map (λ n. n.kind) g.labels; types = g.types }

-- the kind of a node of an item
abbrev pub kind_at : List ItemNodes → ℕ → ℕ → Option NodeKind
kind_at nodes item node = option_and_then (λ own. slice_get own.kinds node) (slice_get nodes item)

-- what is known of the types of an item's expressions
abbrev pub types_at : List ItemNodes → ℕ → ItemTypes
types_at nodes item = option_map_or (λ own. own.types) (slice_get nodes item) no_types
