use Rattle.std.proofs.Common.{◌+◌, Bool, ap}
use Rattle.pattern_vars.specs.Reads.{has}
use Rattle.pattern_vars.specs.VarPlaces.Placing.{one, any_option}
use Rattle.pattern_vars.specs.VarPlaces.Places.{reading_at}
use Rattle.pattern_vars.proofs.VarPlaces.CountLemmas.{counted-as}
use Rattle.pattern_vars.proofs.var_places.counted.count_option.Goals as goal

pub returns : goal.returns
returns c y n h =
    counted-as _ y (n + one (has c.in_ok-part.part y)) (n + one (any_option (λ p. (reading_at c.args.reader.now).used p y) c.args.p.now))
    (ap (λ (z : Bool). n + one z) (c.in_ok-part.ensures y)) (c.in_ok-count.ensures y n h)
