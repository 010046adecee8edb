use Rattle.std.proofs.Common.{◌≡◌, ◌++◌, drop}
use Rattle.rule_envs.proofs.inherited.with_all.Given as goal

abbrev pub invariant-loop-x : goal.invariant-loop-x
invariant-loop-x l = l.vars ++ drop l.x-index l.more ≡ l.initial.vars ++ l.more
