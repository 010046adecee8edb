use Rattle.pattern_vars.proofs.VarPlaces.CountLemmas.{count-more}
use Rattle.pattern_vars.proofs.var_places.counted.count.Goals as goal

pub returns : goal.returns
returns c y n h = count-more c.args.counted.now _ c.args.part.now y n h (c.in_ok-put_set.ensures y) (c.in_ok-put_met.ensures y)
