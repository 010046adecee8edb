-- Which maps and sets in insertion order may be sent to other threads and shared by them: those whose keys and values may.
use denote.RattleType.{RattleType}
use denote.Param.Send.{IsSend, IsSync, sendable}
use Rattle.std.specs.declared.cmp.PartialEq as eq
use Rattle.std.specs.declared.hash.Hash as hash
use Rattle.std.specs.declared.hash.Hasher as hasher
use Rattle.std.specs.declared.hash.BuildHasher as builder
use Rattle.std.specs.contracts.alloc.Global as Heap
use Rattle.std.specs.contracts.impls.GlobalAllocator.TheImpl.{ghosts}
use Rattle.std.proofs.Crossing.{send, sync, Vec-send, Vec-sync}
use Rattle.indexmap.specs.contracts.columns.Columns as Columns
use Rattle.indexmap.specs.contracts.index_table.Bucket as Bucket
use Rattle.indexmap.specs.contracts.index_table.IndexTable as IndexTable
use Rattle.indexmap.specs.contracts.index_table.group.Group as Group
use Rattle.indexmap.specs.contracts.map.IndexMap as IndexMap
use Rattle.indexmap.specs.contracts.set.IndexSet as IndexSet

module _ (K V : RattleType) where
  Columns-send : IsSend K → IsSend V → IsSend (Columns.the_field K V Heap.the_row ghosts).row
  Columns-send sk sv = let a = Vec-send K sk in let b = Vec-send V sv in search sendable depth 20

  Columns-sync : IsSync K → IsSync V → IsSync (Columns.the_field K V Heap.the_row ghosts).row
  Columns-sync yk yv = let a = Vec-sync K yk in let b = Vec-sync V yv in search sendable depth 20

table_send : IsSend (IndexTable.the_field Heap.the_row ghosts).row
table_send =
    let a = Vec-send Group.the_row (search sendable depth 20) in
    let b = Vec-send Bucket.the_row (search sendable depth 20) in
    search sendable depth 20

table_sync : IsSync (IndexTable.the_field Heap.the_row ghosts).row
table_sync =
    let a = Vec-sync Group.the_row (search sendable depth 20) in
    let b = Vec-sync Bucket.the_row (search sendable depth 20) in
    search sendable depth 20

module _ (K V S T : RattleType) (e : eq.Ghosts K.Denot) (h : hash.Ghosts K.Denot) (b : builder.Ghosts S.Denot T.Denot) (w : hasher.Ghosts T.Denot) where
  pub IndexMap-send : IsSend K → IsSend V → IsSend S → IsSend (IndexMap.the_field K V S Heap.the_row T e h b w ghosts).row
  IndexMap-send sk sv ss = let a = Columns-send K V sk sv in let t = table_send in search sendable depth 20

  pub IndexMap-sync : IsSync K → IsSync V → IsSync S → IsSync (IndexMap.the_field K V S Heap.the_row T e h b w ghosts).row
  IndexMap-sync yk yv ys = let a = Columns-sync K V yk yv in let t = table_sync in search sendable depth 20

module _ (K S T : RattleType) (e : eq.Ghosts K.Denot) (h : hash.Ghosts K.Denot) (b : builder.Ghosts S.Denot T.Denot) (w : hasher.Ghosts T.Denot) where
  pub IndexSet-send : IsSend K → IsSend S → IsSend (IndexSet.the_field K S Heap.the_row T e h b w ghosts).row
  IndexSet-send sk ss = search (IndexMap-send, sendable) depth 20

  pub IndexSet-sync : IsSync K → IsSync S → IsSync (IndexSet.the_field K S Heap.the_row T e h b w ghosts).row
  IndexSet-sync yk ys = search (IndexMap-sync, sendable) depth 20

pub ruleset crosses = (IndexMap-send, IndexMap-sync, IndexSet-send, IndexSet-sync)
