use Rattle.std.proofs.Common.{◌≤◌, ◌-◌}
use Rattle.c_file.specs.ItemGraphs.Typed.{IsReached}
use Rattle.c_file.proofs.item_graphs.reached.reach.Given as goal

abbrev pub invariant-loop-reached : goal.invariant-loop-reached
invariant-loop-reached l = record {
  reached : IsReached l.items l.reached;
  before : l.reached.next ≤ l.i;
}

abbrev pub decreases-loop-reached : goal.decreases-loop-reached
decreases-loop-reached l = l.i - l.reached.next
