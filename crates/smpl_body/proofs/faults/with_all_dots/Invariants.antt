use Rattle.std.proofs.Common.{◌≡◌, drop}
use Rattle.smpl_patch.specs.Faults.{first_from, first_of}
use Rattle.smpl_body.specs.Bodies.{minus_dots}
use Rattle.smpl_body.proofs.faults.with_all_dots.Given as goal

abbrev pub invariant-loop-id : goal.invariant-loop-id
invariant-loop-id l = first_from l.first (minus_dots l.placed (drop l.id-index l.ids)) ≡ first_of (minus_dots l.placed l.ids)
