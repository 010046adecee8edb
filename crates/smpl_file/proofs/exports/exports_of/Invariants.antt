use Rattle.std.proofs.Common.{◌≡◌, ◌++◌, drop}
use Rattle.smpl_file.specs.Exports.{exports_of}
use Rattle.smpl_file.proofs.exports.exports_of.Given as goal

abbrev pub invariant-loop-d : goal.invariant-loop-d
invariant-loop-d l = l.exports ++ exports_of l.known (drop l.d-index l.vars) ≡ exports_of l.known l.vars
