-- What the items of a file satisfy, and their graphs.
use Rattle.std.specs.Prelude.{◌≤◌, ◌<◌, ◌^◌, IsTrue, Option, None, Some}
use Rattle.c_terms.specs.Trees.{width}
use Rattle.cpp_lines.specs.declared.reading.Item.{Item}
use Rattle.cpp_lines.specs.declared.reading.Item.TheVariants.{Parsed, Skipped}
use Rattle.cfg_build.specs.Braces.{has_braces}
use Rattle.cfg_build.specs.Graphs.{node_count, graph_of}
use Rattle.cfg_build.specs.CfgGraph.Flow.{Flow}
use Rattle.c_file.specs.Limits.{most_nodes}

-- the graph of a tree that is read doesn't have too many nodes, no branch has 2^32 children, and blocks have both braces
abbrev pub IsFit : Item → Type 0
IsFit (Parsed t) = (node_count t ≤ most_nodes) × (width t < 2 ^ 32) × IsTrue (has_braces t)
IsFit (Skipped span why) = Unit {0}

-- the graph of an item, if it has a tree
abbrev pub item_graph : Option Item → Option Flow
item_graph None = None
item_graph (Some (Parsed t)) = Some (graph_of t)
item_graph (Some (Skipped span why)) = None
