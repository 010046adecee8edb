use Rattle.edit_bodies.proofs.GoneLemmas.{gone_same}
use Rattle.edit_bodies.proofs.gone.is_gone_within.Goals as goal

pub returns-then-range : goal.returns-then-range
returns-then-range c = λ goes leaves are. gone_same goes leaves c.args.counts.now c.args.range are c.if-range.true c.requires
