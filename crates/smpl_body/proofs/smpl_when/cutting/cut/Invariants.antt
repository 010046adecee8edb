use Rattle.std.proofs.Common.{◌≡◌, drop}
use Rattle.smpl_body.specs.SmplWhen.Cutting.{begun, steps}
use Rattle.smpl_body.proofs.smpl_when.cutting.cut.Given as goal

abbrev pub invariant-loop-p : goal.invariant-loop-p
invariant-loop-p l = steps l.c (drop l.p-index l.placed) ≡ steps (begun l.placed) l.placed
