use Rattle.edit_bodies.proofs.PlaceLemmas.{none_or}
use Rattle.edit_bodies.proofs.words.insert_tokens.Goals as goal

pub returns-in-None : goal.returns-in-None
returns-in-None c = none_or c.args.inserts.now c.args.number c.in-None.ensures
