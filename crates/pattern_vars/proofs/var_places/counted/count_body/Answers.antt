use Rattle.std.proofs.Common.{◌+◌, Bool, ap}
use Rattle.smpl_patch.specs.Bodies.{body}
use Rattle.pattern_vars.specs.Reads.{has}
use Rattle.pattern_vars.specs.VarPlaces.Placing.{one, occurs_body}
use Rattle.pattern_vars.specs.VarPlaces.Places.{reading_at}
use Rattle.pattern_vars.proofs.VarPlaces.CountLemmas.{counted-as}
use Rattle.pattern_vars.proofs.var_places.counted.count_body.Goals as goal

pub returns : goal.returns
returns c y n h =
    counted-as _ y (n + one (has c.in_ok-part.part y)) (n + one (occurs_body (reading_at c.args.reader.now) (body c.args.b.now) y))
    (ap (λ (z : Bool). n + one z) (c.in_ok-part.ensures y)) (c.in_ok-count.ensures y n h)
