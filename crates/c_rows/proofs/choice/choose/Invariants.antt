use Rattle.std.proofs.Common.{◌≡◌, drop, map}
use Rattle.c_rows.specs.Choice.{choose, pick_way}
use Rattle.c_rows.proofs.choice.choose.Given as goal

abbrev pub invariant-loop-way : goal.invariant-loop-way
invariant-loop-way l = pick_way l.fork (map (λ way. way.now) (drop l.way-index l.way-items)) l.class ≡ choose l.fork l.class
