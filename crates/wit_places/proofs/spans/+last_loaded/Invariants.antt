use Rattle.std.proofs.Common.{◌≡◌, ◌≤◌, take, length}
use Rattle.wit_places.specs.Spans.{loaded_ids}
use Rattle.wit_places.proofs.RowLemmas.{row_ids}
use Rattle.wit_places.proofs.spans.+last_loaded.Given as goal

abbrev pub decreases-last_loaded : goal.decreases-last_loaded
decreases-last_loaded l = goal.size-last_loaded l

abbrev pub invariant-loop-i : goal.invariant-loop-i
invariant-loop-i l = record {
  within : l.i ≤ length l.children;
  ids : row_ids l.loaded (take l.i l.children) ≡ loaded_ids l.loaded l.tree;
}

abbrev pub decreases-loop-i : goal.decreases-loop-i
decreases-loop-i l = l.i
