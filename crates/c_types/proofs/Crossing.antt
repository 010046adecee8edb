-- Types and tables of types may be sent to other threads and shared by them.
use denote.Param.Send.{IsSend, IsSync, sendable}
use Rattle.std.proofs.Crossing.{crosses}
use Rattle.c_types.specs.contracts.ty.Ty as Ty
use Rattle.c_types.specs.contracts.table.TypeTable as TypeTable
use Rattle.c_types.proofs.MapsCrossing as maps
use Rattle.c_types.proofs.ty.Ty.TheLaws.TheKnot.{send-Ty, sync-Ty}
use Rattle.c_types.proofs.tree_key.TreeKey.TheSendSync as TreeKey

pub ty_send : IsSend Ty.the_row
ty_send = search (send-Ty, crosses, sendable) depth 60

pub ty_sync : IsSync Ty.the_row
ty_sync = search (sync-Ty, crosses, sendable) depth 60

-- as fields of a struct or an enum
pub ty_in_send : IsSend (Ty.the_field).row
ty_in_send = search (send-Ty, crosses, sendable) depth 60 fits 20000

pub ty_in_sync : IsSync (Ty.the_field).row
ty_in_sync = search (sync-Ty, crosses, sendable) depth 60 fits 20000

pub table_in_send : IsSend (TypeTable.the_field).row
table_in_send = search (ty_send, TreeKey.the_field_send, maps.crosses, crosses, sendable) depth 60 fits 20000

pub table_in_sync : IsSync (TypeTable.the_field).row
table_in_sync = search (ty_sync, TreeKey.the_field_sync, maps.crosses, crosses, sendable) depth 60 fits 20000
