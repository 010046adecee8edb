use Rattle.std.proofs.Common.{◌≡◌, drop}
use Rattle.c_types.specs.Tables.{typed, with_all}
use Rattle.c_typing.proofs.part.put_typed.Given as goal

abbrev pub invariant-loop-i : goal.invariant-loop-i
invariant-loop-i l = record {
  trees : with_all l.table.trees (typed (drop l.i l.keys) (drop l.i l.types)) ≡ with_all l.initial.table.trees (typed l.keys l.types);
  locals : l.table.locals ≡ l.initial.table.locals;
}
