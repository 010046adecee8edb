use Rattle.std.proofs.Common.{◌≡◌, drop}
use Rattle.smpl_meta.specs.TypeNames.{with_type_names}
use Rattle.smpl_meta.proofs.type_names.TypeNames.add.Given as goal

abbrev pub invariant-loop-item : goal.invariant-loop-item
invariant-loop-item l = with_type_names l.self (drop l.item-index l.items) ≡ with_type_names l.initial.self l.items
