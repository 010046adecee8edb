-- The labels of nodes that are kept.
use Rattle.std.specs.Prelude.{ℕ, List, [], ◌∷◌, ◌++◌, map, Option, slice_index_or}
use Rattle.c_terms.specs.declared.tree.Tree.{Tree}
use Rattle.cfg_build.specs.declared.cfg_graph.label.NodeKind.{NodeKind}
use Rattle.cfg_build.specs.declared.cfg_graph.label.NodeKind.TheVariants as kind
use Rattle.cfg_build.specs.declared.cfg_graph.label.NodeLabel.{NodeLabel}
use Rattle.cfg_build.specs.declared.cfg_graph.node.Seat.{Seat}
use Rattle.cfg_build.specs.declared.cfg_graph.node.NodeEntry.{NodeEntry}
use Rattle.cfg_build.specs.CfgGraph.Empty.{no_statements}
use Rattle.cfg_build.specs.CfgGraph.Flow.{Flow}
use Rattle.cfg_build.specs.CfgGraph.Seats.{path_to}

-- an exit names no statement
abbrev pub tree_of : NodeKind → Tree → Tree
tree_of kind.ExitNode t = no_statements
tree_of _ t = t

-- the label of a node with this path
abbrev pub label_of : List ℕ → NodeEntry → NodeLabel
label_of path n = record { kind = n.kind; tree = tree_of n.kind n.tree.now; path = path; bail = n.bail; brace = n.brace }

-- the labels of nodes that come after others with these paths
abbrev pub labels_after : List (List ℕ) → List NodeEntry → List NodeLabel
labels_after paths [] = []
labels_after paths (n ∷ ns) = label_of (path_to paths n.seat) n ∷ labels_after (paths ++ path_to paths n.seat ∷ []) ns

abbrev pub labels_of : List NodeEntry → List NodeLabel
labels_of ns = labels_after [] ns

abbrev pub paths_in : List NodeLabel → List (List ℕ)
paths_in labels = map (λ l. l.path) labels

-- the path of the node of this number
abbrev pub path_at : List NodeLabel → ℕ → List ℕ
path_at labels n = slice_index_or (paths_in labels) n []

-- the path to a seat that refers to one of these nodes
abbrev pub seat_path : List NodeLabel → Seat → List ℕ
seat_path labels seat = path_to (paths_in labels) seat

-- a graph with one more node
abbrev pub with_node : Flow → NodeEntry → List ℕ → Option ℕ → List ℕ → Flow
with_node g n succ past down = record {
  labels = g.labels ++ label_of (seat_path g.labels n.seat) n ∷ [];
  succ = g.succ ++ succ ∷ [];
  past = g.past ++ past ∷ [];
  down = g.down ++ down ∷ [];
  types = g.types;
}
