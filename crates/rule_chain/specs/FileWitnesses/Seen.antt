-- The graphs of items as a rule sees them: with the types of their expressions, if one of its variables asks for types.
use Rattle.std.specs.Prelude.{ℕ, Option, List}
use Rattle.cpp_lines.specs.declared.reading.Item.{Item}
use Rattle.cfg_build.specs.CfgGraph.Flow.{Flow}
use Rattle.c_file.specs.ItemGraphs.Typed.{graph_in, all_graphs}
use Rattle.smpl_patch.specs.declared.rule.Rule.{Rule}
use Rattle.smpl_patch.specs.Wants.{ask_types}

-- the graph of the item with this number, if the item has a tree
abbrev pub seen_graph : Rule → List Item → ℕ → Option Flow
seen_graph rule items i = graph_in (ask_types rule.vars) items i

abbrev pub seen_graphs : Rule → List Item → List (Option Flow)
seen_graphs rule items = all_graphs (ask_types rule.vars) items
