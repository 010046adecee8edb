use Rattle.std.proofs.Common.{◌≡◌, map, take, length}
use Rattle.c_typing.specs.Fields.{with_fields, field_of}
use Rattle.c_typing.proofs.field.Fields.add_each.Given as goal

abbrev pub invariant-loop-binding : goal.invariant-loop-binding
invariant-loop-binding l = record {
  done : l.self ≡ with_fields l.initial.self (map (field_of l.is_union l.tag) l.yielded);
  kept : take (length l.initial.self) l.self ≡ l.initial.self;
}
