use Rattle.std.proofs.Common.{drop}
use Rattle.smpl_terms.specs.Environments.{Environment}
use Rattle.env_sets.specs.Ascending.{side, NoLater}
use Rattle.env_sets.proofs.ascending.may_follow.Given as goal

abbrev pub invariant-loop-i : goal.invariant-loop-i
invariant-loop-i l = (env : Environment) → NoLater (side (drop l.i l.a) env) (side (drop l.i l.b) env) → NoLater (side l.a env) (side l.b env)
