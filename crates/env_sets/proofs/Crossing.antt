-- Sets, their parts and sets by node may be sent to other threads and shared by them.
use denote.Param.Send.{IsSend, IsSync, sendable, recorded_send, recorded_sync, enum_send, enum_sync}
use denote.Enum.Declared.{shape}
use Rattle.std.proofs.Crossing.{crosses}
use Rattle.smpl_terms.proofs.Crossing.{value_in_send, value_in_sync}
use Rattle.env_sets.specs.contracts.runs.Runs as Runs
use Rattle.env_sets.specs.contracts.excluded.Values as Values
use Rattle.env_sets.specs.contracts.bounds.Bound as Bound
use Rattle.env_sets.specs.contracts.entries.Entry as Entry
use Rattle.env_sets.specs.contracts.sets.EnvSet as EnvSet
use Rattle.env_sets.specs.contracts.states.StateRow as StateRow
use Rattle.env_sets.specs.contracts.states.StateSets as StateSets

-- the lists of excluded values, as fields of a struct
runs_send : IsSend (Runs.the_field).row
runs_send = search (value_in_send, value_in_sync, crosses, sendable) depth 60

runs_sync : IsSync (Runs.the_field).row
runs_sync = search (value_in_send, value_in_sync, crosses, sendable) depth 60

values_send : IsSend Values.the_row
values_send = search (runs_send, crosses, sendable) depth 60

values_sync : IsSync Values.the_row
values_sync = search (runs_sync, crosses, sendable) depth 60

bound_send : IsSend Bound.the_row
bound_send = recorded_send _ _ _ (Bound.the_type).to_one
    (enum_send (shape Bound.the_type) ((value_in_send, tt), ((search (values_send, crosses, sendable) depth 60, tt), tt)))

bound_sync : IsSync Bound.the_row
bound_sync = recorded_sync _ _ _ (Bound.the_type).to_one
    (enum_sync (shape Bound.the_type) ((value_in_sync, tt), ((search (values_sync, crosses, sendable) depth 60, tt), tt)))

pub entry_send : IsSend Entry.the_row
entry_send = search (bound_send, bound_sync, crosses, sendable) depth 60

pub entry_sync : IsSync Entry.the_row
entry_sync = search (bound_send, bound_sync, crosses, sendable) depth 60

pub set_send : IsSend EnvSet.the_row
set_send = search (entry_send, entry_sync, crosses, sendable) depth 60

pub set_sync : IsSync EnvSet.the_row
set_sync = search (entry_send, entry_sync, crosses, sendable) depth 60

pub row_send : IsSend StateRow.the_row
row_send = search (set_send, set_sync, crosses, sendable) depth 60

pub row_sync : IsSync StateRow.the_row
row_sync = search (set_send, set_sync, crosses, sendable) depth 60

pub states_send : IsSend StateSets.the_row
states_send = search (row_send, row_sync, crosses, sendable) depth 60

pub states_sync : IsSync StateSets.the_row
states_sync = search (row_send, row_sync, crosses, sendable) depth 60
