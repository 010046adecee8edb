use Rattle.std.proofs.Common.{◌≡◌, ◌++◌, drop}
use Rattle.smpl_file.proofs.exports.with_places.Given as goal

abbrev pub invariant-loop-y : goal.invariant-loop-y
invariant-loop-y l = l.known ++ drop l.y-index l.y-items ≡ l.initial.known ++ l.y-items
