use Rattle.std.proofs.Common.{◌≡◌, ◌++◌, drop}
use Rattle.smpl_file.specs.Exports.{taken_by_all}
use Rattle.smpl_file.proofs.exports.with_all.Given as goal

abbrev pub invariant-loop-d : goal.invariant-loop-d
invariant-loop-d l = l.known ++ taken_by_all (drop l.d-index l.vars) ≡ l.initial.known ++ taken_by_all l.vars
