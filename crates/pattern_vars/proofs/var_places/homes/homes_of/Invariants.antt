use Rattle.std.proofs.Common.{◌≤◌, drop, length}
use Rattle.smpl_patch.specs.Bodies.{body}
use Rattle.pattern_vars.specs.VarPlaces.Places.{reading_at}
use Rattle.pattern_vars.specs.VarPlaces.Homes.{AreHomes}
use Rattle.pattern_vars.proofs.var_places.homes.homes_of.Given as goal

abbrev pub invariant-loop-i : goal.invariant-loop-i
invariant-loop-i l = (l.i ≤ length l.b) × AreHomes l.homes.entries (reading_at l.reader) l.i (body (drop l.i l.b))

abbrev pub decreases-loop-i : goal.decreases-loop-i
decreases-loop-i l = l.i
