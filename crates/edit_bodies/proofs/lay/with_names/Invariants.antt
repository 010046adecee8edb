use Rattle.std.proofs.Common.{◌≡◌, ◌≤◌}
use Rattle.edit_bodies.specs.Laid.{names_at}
use Rattle.edit_bodies.proofs.lay.with_names.Given as goal

abbrev pub invariant-loop-i : goal.invariant-loop-i
invariant-loop-i l = record {
  names : l.names ≡ names_at l.items l.i;
  within : l.i ≤ l.item;
}
