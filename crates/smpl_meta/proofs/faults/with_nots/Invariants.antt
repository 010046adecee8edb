use Rattle.std.proofs.Common.{◌≡◌, drop}
use Rattle.smpl_patch.specs.Faults.{first_from}
use Rattle.smpl_meta.specs.Decls.{nots_faults}
use Rattle.smpl_meta.proofs.faults.with_nots.Given as goal

abbrev pub invariant-loop-named : goal.invariant-loop-named
invariant-loop-named l = first_from l.first (nots_faults l.earlier.heads l.kind (drop l.named-index l.nots))
    ≡ first_from l.fn.first (nots_faults l.earlier.heads l.kind l.nots)
