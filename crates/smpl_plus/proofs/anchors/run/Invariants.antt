use Rattle.std.proofs.Common.{◌≡◌, ◌+◌, drop}
use Rattle.smpl_plus.specs.SoFar.{run_length}
use Rattle.smpl_plus.proofs.anchors.run.Given as goal

abbrev pub invariant-loop-i : goal.invariant-loop-i
invariant-loop-i l = run_length l.line l.rest ≡ l.i + run_length l.line (drop l.i l.rest)
