use Rattle.std.proofs.Common.{◌≡◌, take}
use Rattle.edit_bodies.specs.Laid.{names_at, nothing_seen}
use Rattle.edit_bodies.specs.Scenes.{SeesAll}
use Rattle.edit_bodies.proofs.lay.see_all.Given as goal

abbrev pub invariant-loop-body : goal.invariant-loop-body
invariant-loop-body l = record {
  names : l.known.names ≡ names_at l.items l.known.count;
  sees : SeesAll l.scene l.items (take l.body-index l.bodies) nothing_seen l.seen;
}
