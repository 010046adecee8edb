use Rattle.smpl_patch.specs.Bodies.{element}
use Rattle.pattern_vars.specs.Keys.{value_of}
use Rattle.pattern_vars.specs.VarPlaces.Places.{reading_at}
use Rattle.pattern_vars.proofs.VarPlaces.HomeLemmas.{spread-step}
use Rattle.pattern_vars.proofs.var_places.homes.put_spread.Goals as goal

pub returns : goal.returns
returns c y =
    spread-step (reading_at c.args.reader.now) c.args.place (element c.args.e.now) c.args.own.now c.in_ok-several.several c.args.later.now
    (value_of c.args.homes.now.entries y) (value_of c.put_each.new.homes.entries y) y (c.requires y) (c.in_ok-several.ensures y) (c.in_ok-put_each.ensures y)
