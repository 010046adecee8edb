-- Trees may be sent to other threads and shared by them.
use denote.Param.Send.{IsSend, IsSync, sendable}
use Rattle.std.proofs.Crossing.{crosses}
use Rattle.c_terms.specs.contracts.tree.Tree as Tree
use Rattle.c_terms.proofs.token.Token.TheSendSync as Token
use Rattle.c_terms.proofs.label.Label.TheSendSync as Label
use Rattle.c_terms.proofs.tree.Tree.TheLaws.TheKnot.{send-Tree, sync-Tree}

pub tree_send : IsSend Tree.the_row
tree_send = search (send-Tree, Token.the_field_send, Label.the_field_send, crosses, sendable) depth 60

pub tree_sync : IsSync Tree.the_row
tree_sync = search (sync-Tree, Token.the_field_sync, Label.the_field_sync, crosses, sendable) depth 60

-- as fields of a struct or an enum
pub tree_in_send : IsSend (Tree.the_field).row
tree_in_send = search (send-Tree, Token.the_field_send, Label.the_field_send, crosses, sendable) depth 60 fits 20000

pub tree_in_sync : IsSync (Tree.the_field).row
tree_in_sync = search (sync-Tree, Token.the_field_sync, Label.the_field_sync, crosses, sendable) depth 60 fits 20000
