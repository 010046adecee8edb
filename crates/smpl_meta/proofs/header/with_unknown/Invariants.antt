use Rattle.std.proofs.Common.{◌≡◌, drop}
use Rattle.smpl_meta.specs.Heads.{unknown_faults}
use Rattle.smpl_patch.specs.Faults.{first_from}
use Rattle.smpl_meta.proofs.header.with_unknown.Given as goal

abbrev pub invariant-loop-t : goal.invariant-loop-t
invariant-loop-t l = first_from l.first (unknown_faults l.earlier.virtuals l.earlier.heads (drop l.t-index l.tokens))
    ≡ first_from l.fn.first (unknown_faults l.earlier.virtuals l.earlier.heads l.tokens)
