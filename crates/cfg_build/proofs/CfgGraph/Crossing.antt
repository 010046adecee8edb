-- Graphs may go to other threads and be shared by them.
use denote.Param.Send.{IsSend, IsSync, sendable}
use denote.Ref.{NamedLft}
use Rattle.std.proofs.Crossing.{crosses}
use Rattle.c_terms.proofs.Crossing.{tree_sync, tree_in_send, tree_in_sync}
use Rattle.c_types.proofs.Crossing.{table_in_send, table_in_sync}
use Rattle.cfg_build.specs.contracts.cfg_graph.node.NodeEntry as NodeEntry
use Rattle.cfg_build.specs.contracts.cfg_graph.link_rows.LinkRows as LinkRows
use Rattle.cfg_build.specs.contracts.cfg_graph.graph.GraphBuilder as GraphBuilder
use Rattle.cfg_build.specs.contracts.cfg_graph.graph.Graph as Graph

entry_send : (κ : NamedLft) → IsSend (NodeEntry.the_row κ)
entry_send κ = search (tree_sync, crosses, sendable) depth 60

entry_sync : (κ : NamedLft) → IsSync (NodeEntry.the_row κ)
entry_sync κ = search (tree_sync, crosses, sendable) depth 60

links_in_send : IsSend (LinkRows.the_field).row
links_in_send = search (crosses, sendable) depth 60 fits 20000

links_in_sync : IsSync (LinkRows.the_field).row
links_in_sync = search (crosses, sendable) depth 60 fits 20000

rows_in_send : (κ : NamedLft) → IsSend (GraphBuilder.the_field κ).row
rows_in_send κ = search (entry_send, tree_in_send, tree_in_sync, links_in_send, crosses, sendable) depth 60 fits 20000

rows_in_sync : (κ : NamedLft) → IsSync (GraphBuilder.the_field κ).row
rows_in_sync κ = search (entry_sync, tree_in_sync, links_in_sync, crosses, sendable) depth 60 fits 20000

pub graph_send : (κ : NamedLft) → IsSend (Graph.the_row κ)
graph_send κ = search (rows_in_send, table_in_send, crosses, sendable) depth 60

pub graph_sync : (κ : NamedLft) → IsSync (Graph.the_row κ)
graph_sync κ = search (rows_in_sync, table_in_sync, crosses, sendable) depth 60
