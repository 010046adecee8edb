use Rattle.std.proofs.Common.{◌≡◌, drop}
use Rattle.smpl_patch.specs.Faults.{first_from, first_of}
use Rattle.smpl_body.specs.Bodies.{edge_faults}
use Rattle.smpl_body.proofs.faults.edge_fault.Given as goal

abbrev pub invariant-loop-id : goal.invariant-loop-id
invariant-loop-id l = first_from l.first (edge_faults l.placed (drop l.id-index l.ids)) ≡ first_of (edge_faults l.placed l.ids)
