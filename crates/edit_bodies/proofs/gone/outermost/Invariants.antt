use Rattle.std.proofs.Common.{◌≡◌, not, take}
use Rattle.std.specs.Prelude.{filter}
use Rattle.std.specs.List.{list_any}
use Rattle.edit_bodies.specs.Gone.{is_around}
use Rattle.edit_bodies.proofs.gone.outermost.Given as goal

abbrev pub invariant-loop-range : goal.invariant-loop-range
invariant-loop-range l = l.outer.items ≡ filter (λ r. not (list_any (λ a. is_around a r) l.ranges)) (take l.range-index l.ranges)
