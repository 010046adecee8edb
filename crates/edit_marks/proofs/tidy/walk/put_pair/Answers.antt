use Rattle.edit_marks.proofs.Tidied.PairLemmas.{no_pair}
use Rattle.edit_marks.proofs.tidy.walk.put_pair.Goals as goal

pub returns-in-None : goal.returns-in-None
returns-in-None c = no_pair c.args.pairs.now.items c.args.numbers.now c.args.at c.args.statement c.in-None.ensures.lookup.3
