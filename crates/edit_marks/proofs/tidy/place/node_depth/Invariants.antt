use Rattle.std.proofs.Common.{◌≡◌, ◌+◌, drop, length}
use Rattle.edit_marks.specs.Tidy.Reach.{node_path}
use Rattle.edit_marks.proofs.tidy.place.node_depth.Given as goal

abbrev pub invariant-loop-step : goal.invariant-loop-step
invariant-loop-step l = record {
  at : l.depth ≡ l.step-index;
  rest : l.depth + length (node_path l.found (drop l.step-index l.path)) ≡ length (node_path l.tree l.path);
}
