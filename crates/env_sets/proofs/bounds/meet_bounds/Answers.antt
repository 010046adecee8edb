use Rattle.std.proofs.Common.{rules}
use Rattle.env_sets.proofs.BoundLemmas.{meet_kept, meet_none, meet_kept_right, meet_none_right}
use Rattle.env_sets.proofs.bounds.meet_bounds.Goals as goal

pub returns-in_ok-copy-in-Is-default : goal.returns-in_ok-copy-in-Is-default
returns-in_ok-copy-in-Is-default c = meet_kept c.in-Is-default.v c.args.a.now c.args.b.now _ c.allows.result (search rules)
    (search rules) (search rules) c.if-allows.true

pub returns-else-allows : goal.returns-else-allows
returns-else-allows c = meet_none c.in-Is-default.v c.args.a.now c.args.b.now c.allows.result (search rules) (search rules) c.if-allows.false

pub returns-in_ok-copy-in-Not-Is : goal.returns-in_ok-copy-in-Not-Is
returns-in_ok-copy-in-Not-Is c = meet_kept_right c.in-Not-Is.w c.args.a.now c.args.b.now _ c.allows-in-Not-Is.result
    (search rules) (search rules) (search rules) c.if-allows-2.true

pub returns-else-allows-2 : goal.returns-else-allows-2
returns-else-allows-2 c = meet_none_right c.in-Not-Is.w c.args.a.now c.args.b.now c.allows-in-Not-Is.result (search rules) (search rules) c.if-allows-2.false
