use Rattle.std.proofs.Common.{◌≡◌, ◌+◌, ◌-◌, length, drop}
use Rattle.smpl_terms.specs.Vars.{place_of}
use Rattle.smpl_terms.proofs.map.place.Given as goal

abbrev pub invariant-loop-i : goal.invariant-loop-i
invariant-loop-i g l = place_of l.v l.pairs ≡ l.i + place_of l.v (drop l.i l.pairs)

abbrev pub decreases-loop-i : goal.decreases-loop-i
decreases-loop-i g l = length l.pairs - l.i
