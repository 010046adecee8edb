-- The matched sets and nodes of an item may be sent to other threads and be shared by them.
use denote.Param.Send.{IsSend, IsSync, sendable}
use Rattle.std.proofs.Crossing.{crosses}
use Rattle.env_sets.proofs.Crossing.{row_send, row_sync}
use Rattle.env_sets.specs.contracts.states.StateSets as StateSets
use Rattle.rule_chain.specs.contracts.rule_witnesses.matched.SatSets as SatSets

-- as fields of a struct
sets_in_send : IsSend (StateSets.the_field).row
sets_in_send = search (row_send, crosses, sendable) depth 60

sets_in_sync : IsSync (StateSets.the_field).row
sets_in_sync = search (row_sync, crosses, sendable) depth 60

pub matched_send : IsSend SatSets.the_row
matched_send = search (sets_in_send, crosses, sendable) depth 60

pub matched_sync : IsSync SatSets.the_row
matched_sync = search (sets_in_sync, crosses, sendable) depth 60
