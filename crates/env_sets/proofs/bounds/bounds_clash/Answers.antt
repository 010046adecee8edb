use Rattle.std.proofs.Common.{arith, rules}
use Rattle.std.proofs.lemmas.Grind.{common_steps}
use Rattle.env_sets.proofs.BoundLemmas.{meet_none, meet_none_right}
use Rattle.env_sets.proofs.bounds.bounds_clash.Goals as goal

pub returns-in-Is-default : goal.returns-in-Is-default
returns-in-Is-default c = λ h. meet_none c.in-Is-default.v c.args.a.now c.args.b.now c.allows.result (search rules) (search rules) (grind (arith, common_steps))

pub returns-in-Not-Is : goal.returns-in-Not-Is
returns-in-Not-Is c = λ h. meet_none_right c.in-Not-Is.w c.args.a.now c.args.b.now c.allows-in-Not-Is.result (search rules)
    (search rules) (grind (arith, common_steps))
