use Rattle.std.proofs.Common.{◌≡◌, ◌≤◌, ◌-◌, None, length}
use Rattle.std.specs.Prelude.{All}
use Rattle.c_file.proofs.item_graphs.graphs.places.Given as goal

abbrev pub invariant-loop-made : goal.invariant-loop-made
invariant-loop-made l = record {
  short : length l.made ≤ l.count;
  none : All (λ graph. graph ≡ None) l.made;
}

abbrev pub decreases-loop-made : goal.decreases-loop-made
decreases-loop-made l = l.count - length l.made
