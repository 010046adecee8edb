-- Variables, values and environments may be sent to other threads and shared by them.
use denote.Param.Send.{IsSend, IsSync, sendable}
use Rattle.std.proofs.Crossing.{crosses}
use Rattle.c_terms.proofs.Crossing.{tree_send, tree_sync}
use Rattle.smpl_terms.specs.contracts.var.Var as Var
use Rattle.smpl_terms.specs.contracts.value.Value as Value
use Rattle.smpl_terms.specs.contracts.env.Env as Env

pub var_send : IsSend Var.the_row
var_send = search (crosses, sendable) depth 60

pub var_sync : IsSync Var.the_row
var_sync = search (crosses, sendable) depth 60

-- as fields of a struct or an enum
pub var_in_send : IsSend (Var.the_field).row
var_in_send = search (crosses, sendable) depth 60

pub var_in_sync : IsSync (Var.the_field).row
var_in_sync = search (crosses, sendable) depth 60

pub value_in_send : IsSend (Value.the_field).row
value_in_send = search (tree_send, tree_sync, crosses, sendable) depth 60

pub value_in_sync : IsSync (Value.the_field).row
value_in_sync = search (tree_send, tree_sync, crosses, sendable) depth 60

pub value_send : IsSend Value.the_row
value_send = search (tree_send, tree_sync, crosses, sendable) depth 60

pub value_sync : IsSync Value.the_row
value_sync = search (tree_send, tree_sync, crosses, sendable) depth 60

pub env_send : IsSend Env.the_row
env_send = search (value_in_send, value_in_sync, crosses, sendable) depth 60

pub env_sync : IsSync Env.the_row
env_sync = search (value_in_send, value_in_sync, crosses, sendable) depth 60
