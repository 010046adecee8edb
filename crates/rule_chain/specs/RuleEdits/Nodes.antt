-- What edits need of the items' graphs.
use Rattle.std.specs.Prelude.{ℕ, Option, None, Some, List, map}
use Rattle.cpp_lines.specs.declared.reading.Item.{Item}
use Rattle.cfg_build.specs.CfgGraph.Flow.{Flow}
use Rattle.smpl_patch.specs.declared.rule.Rule.{Rule}
use Rattle.edit_marks.specs.declared.edit_walk.nodes.ItemNodes.{ItemNodes}
use Rattle.edit_marks.specs.EditWalk.Nodes.{no_nodes, nodes_in}
use Rattle.rule_chain.specs.FileWitnesses.Seen.{seen_graph, seen_graphs}

-- an item that is skipped has none
abbrev pub graph_nodes : Option Flow → ItemNodes
graph_nodes None = no_nodes
graph_nodes (Some g) = nodes_in g

abbrev pub nodes_of : Rule → List Item → List ItemNodes
nodes_of rule items = map graph_nodes (seen_graphs rule items)

abbrev pub nodes_at : Rule → List Item → ℕ → ItemNodes
nodes_at rule items i = graph_nodes (seen_graph rule items i)
