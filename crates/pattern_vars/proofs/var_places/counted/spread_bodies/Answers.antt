use Rattle.std.proofs.Common.{◌∙◌, ◌+◌, zero-add}
use Rattle.smpl_patch.proofs.BodyLemmas.{bodies}
use Rattle.pattern_vars.specs.VarPlaces.Placing.{bodies_with}
use Rattle.pattern_vars.specs.VarPlaces.Places.{reading_at}
use Rattle.pattern_vars.proofs.VarPlaces.CountLemmas.{counted-as, several-is}
use Rattle.pattern_vars.proofs.var_places.counted.spread_bodies.Goals as goal

pub returns : goal.returns
returns c y =
    let n = bodies_with (reading_at c.args.reader.now) (bodies c.args.bs.now) y in
    let h = counted-as _ y (0 + n) n (zero-add n) (c.in_ok-count_bodies.ensures y 0 (c.count_nothing-counted.ensures y)) in
    h.several ∙ several-is n
