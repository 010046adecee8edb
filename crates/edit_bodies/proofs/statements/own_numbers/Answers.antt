use Rattle.edit_bodies.proofs.PlaceLemmas.{none_or}
use Rattle.edit_bodies.proofs.statements.own_numbers.Goals as goal

pub returns-in-None : goal.returns-in-None
returns-in-None c = none_or c.args.numbers.now c.args.edit c.in-None.ensures
