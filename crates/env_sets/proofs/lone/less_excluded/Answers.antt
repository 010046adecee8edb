use Rattle.std.proofs.Common.{arith}
use Rattle.env_sets.proofs.LoneLemmas.{nothing_left}
use Rattle.env_sets.proofs.lone.less_excluded.Goals as goal

pub returns-then-count-eq0-clause-within : goal.returns-then-count-eq0-clause-within
returns-then-count-eq0-clause-within c = λ env _.
    nothing_left c.as_slice-count.result.now c.in_ok-left.left (env c.args.x.now) _ _ _ c.as_slice-count.ensures.items (omega (arith, c.if-count-eq0.true))
    (c.in_ok-left.ensures (env c.args.x.now)) (c.in_ok-excluded.ensures env) (c.in_ok-fixed.ensures env)
