use Rattle.std.proofs.Common.{◌≡◌, drop}
use Rattle.smpl_patch.specs.Faults.{first_from}
use Rattle.smpl_body.specs.Bodies.{minus_signs}
use Rattle.smpl_body.proofs.faults.with_signs.Given as goal

abbrev pub invariant-loop-p : goal.invariant-loop-p
invariant-loop-p l = first_from l.first (minus_signs (drop l.p-index l.placed)) ≡ first_from l.initial.first (minus_signs l.placed)
