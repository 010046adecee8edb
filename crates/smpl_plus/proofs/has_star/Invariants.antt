use Rattle.std.proofs.Common.{◌≡◌, drop}
use Rattle.smpl_plus.specs.Anchors.{has_star}
use Rattle.smpl_plus.proofs.has_star.Given as goal

abbrev pub invariant-loop-l : goal.invariant-loop-l
invariant-loop-l l = has_star (drop l.l-index l.body) ≡ has_star l.body
