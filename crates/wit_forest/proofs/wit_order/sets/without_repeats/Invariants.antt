use Rattle.std.proofs.Common.{◌≡◌, Bool, true, length, take}
use Rattle.std.specs.List.{list_all}
use Rattle.smpl_patch.specs.declared.witness.Witness.{Witness}
use Rattle.wit_forest.specs.WitOrder.Forests.{has, Rise}
use Rattle.wit_forest.proofs.wit_order.sets.without_repeats.Given as goal

abbrev pub invariant-loop-w : goal.invariant-loop-w
invariant-loop-w l = record {
  trees : (z : Witness) → has l.kept.items z ≡ has l.yielded z;
  among : (q : Witness → Bool) → list_all q (take (length l.yielded) l.fn.trees.items) ≡ true → list_all q l.kept.items ≡ true;
  rise : Rise l.decls l.kept.items;
}
