-- Formulas and the tables they are in may be sent to other threads and shared by them.
use denote.Param.Send.{IsSend, IsSync, sendable}
use Rattle.std.proofs.Crossing.{crosses}
use Rattle.std.proofs.MapsCrossing as maps
use Rattle.smpl_terms.proofs.Crossing.{var_in_send, var_in_sync}
use Rattle.smpl_patch.proofs.Crossing.{pattern_in_send, pattern_in_sync, decl_send, decl_sync, token_send, token_sync}
use Rattle.ctl_formula.specs.contracts.node.Node as Node
use Rattle.ctl_formula.specs.contracts.parts.Part as TablePart
use Rattle.ctl_formula.specs.contracts.parts.Parts as Parts
use Rattle.ctl_formula.specs.contracts.formula.Formula as Formula

node_in_send : IsSend (Node.the_field).row
node_in_send = search (pattern_in_send, var_in_send, crosses, sendable) depth 60 fits 20000

node_in_sync : IsSync (Node.the_field).row
node_in_sync = search (pattern_in_sync, var_in_sync, crosses, sendable) depth 60 fits 20000

part_send : IsSend TablePart.the_row
part_send = search (node_in_send, crosses, sendable) depth 60

part_sync : IsSync TablePart.the_row
part_sync = search (node_in_sync, crosses, sendable) depth 60

pub parts_send : IsSend Parts.the_row
parts_send = search (part_send, crosses, maps.crosses, sendable) depth 60 fits 20000

pub parts_sync : IsSync Parts.the_row
parts_sync = search (part_sync, crosses, maps.crosses, sendable) depth 60 fits 20000

pub formula_send : IsSend Formula.the_row
formula_send = search (parts_send, decl_send, token_send, crosses, sendable) depth 60

pub formula_sync : IsSync Formula.the_row
formula_sync = search (parts_sync, decl_sync, token_sync, crosses, sendable) depth 60
