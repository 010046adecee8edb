use Rattle.edit_bodies.proofs.PlaceLemmas.{none_or}
use Rattle.edit_bodies.proofs.braces.own_braces.Goals as goal

pub returns-in-None : goal.returns-in-None
returns-in-None c = none_or c.args.places.now c.args.token c.in-None.ensures
