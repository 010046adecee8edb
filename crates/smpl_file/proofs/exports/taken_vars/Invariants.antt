use Rattle.std.proofs.Common.{◌≡◌, ◌++◌, drop}
use Rattle.smpl_file.specs.Exports.{taken}
use Rattle.smpl_file.proofs.exports.taken_vars.Given as goal

abbrev pub invariant-loop-i : goal.invariant-loop-i
invariant-loop-i l = l.known ++ taken (drop l.i l.heads.heads) ≡ taken l.heads.heads
