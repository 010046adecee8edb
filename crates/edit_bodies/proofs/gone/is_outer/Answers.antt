use Rattle.edit_bodies.proofs.GoneLemmas.{outer_else, outer_then}
use Rattle.edit_bodies.proofs.gone.is_outer.Goals as goal

pub returns-then-before-range : goal.returns-then-before-range
returns-then-before-range c = λ ranges are are_before more.
    outer_then ranges c.args.ends.now c.args.before.now c.args.range are are_before c.requires.ends c.requires.before more c.if-before-range.true

pub returns-else-before-range : goal.returns-else-before-range
returns-else-before-range c = λ ranges are are_before more.
    outer_else ranges c.args.ends.now c.args.before.now c.args.range are are_before c.requires.ends c.requires.before more c.if-before-range.false
