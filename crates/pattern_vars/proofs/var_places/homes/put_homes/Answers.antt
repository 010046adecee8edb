use Rattle.smpl_patch.specs.Bodies.{body, element}
use Rattle.pattern_vars.specs.VarPlaces.Places.{reading_at}
use Rattle.pattern_vars.proofs.VarPlaces.HomeLemmas.{homes-step}
use Rattle.pattern_vars.proofs.var_places.homes.put_homes.Goals as goal

pub returns : goal.returns
returns c =
    homes-step (reading_at c.args.reader.now) c.args.place (element c.args.e.now) (body c.args.rest.now) c.args.homes.now.entries
    c.put_dotted.new.homes.entries c.put_spread.new.homes.entries c.in_ok-own.own c.in_ok-later.later c.requires
    c.in_ok-own.ensures c.in_ok-later.ensures c.in_ok-put_dotted.ensures c.in_ok-put_spread.ensures
