use Rattle.std.proofs.Common.{◌≡◌, drop}
use Rattle.smpl_meta.specs.Heads.{behind_on}
use Rattle.smpl_meta.proofs.header.behind_on.Given as goal

abbrev pub invariant-loop-i : goal.invariant-loop-i
invariant-loop-i l = behind_on (drop l.i l.header) ≡ behind_on l.header
