use Rattle.std.proofs.Common.{◌≡◌, ◌≤◌, drop}
use Rattle.smpl_body.specs.Deep.{deep_from, deep_fault}
use Rattle.smpl_body.proofs.deep.deep_fault.Given as goal

abbrev pub invariant-loop-p : goal.invariant-loop-p
invariant-loop-p l = record {
  same : deep_from l.depth (drop l.p-index l.placed) ≡ deep_fault l.placed;
  low : l.depth ≤ 200;
}
