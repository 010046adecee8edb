use Rattle.std.proofs.Common.{◌≡◌, drop}
use Rattle.c_types.specs.Tables.{with_ids}
use Rattle.c_typing.proofs.part.put_local_names.Given as goal

abbrev pub invariant-loop-id : goal.invariant-loop-id
invariant-loop-id l = record {
  trees : l.table.trees ≡ l.initial.table.trees;
  locals : with_ids l.table.locals (drop l.id-index l.ids) ≡ with_ids l.initial.table.locals l.ids;
}
