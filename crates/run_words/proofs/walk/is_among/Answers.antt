use Rattle.run_words.proofs.FormLemmas.{none_among, one_among}
use Rattle.run_words.proofs.walk.is_among.Goals as goal

pub returns-then-eq : goal.returns-then-eq
returns-then-eq c = one_among c.args.names.now c.args.name.now c.loop-other.other-index _ c.loop-other-test.true c.if-eq.ensures

pub returns : goal.returns
returns c = none_among c.args.names.now c.args.name.now c.loop-other.other-index c.loop-other-test.false c.loop-other.invariant
