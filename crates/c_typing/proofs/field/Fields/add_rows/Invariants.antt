use Rattle.std.proofs.Common.{◌≡◌, map, drop, length, take}
use Rattle.c_terms.specs.Trees.{join}
use Rattle.c_typing.specs.Fields.{with_fields, declared_fields}
use Rattle.c_typing.proofs.field.Fields.add_rows.Given as goal

abbrev pub invariant-loop-row : goal.invariant-loop-row
invariant-loop-row l = record {
  done : with_fields l.self (join (map (declared_fields l.is_union l.tag) (drop l.row-index l.rows)))
      ≡ with_fields l.initial.self (join (map (declared_fields l.is_union l.tag) l.rows));
  kept : take (length l.initial.self) l.self ≡ l.initial.self;
}
