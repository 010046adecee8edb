use Rattle.std.proofs.Common.{◌≡◌, take}
use Rattle.smpl_terms.specs.Environments.{Environment}
use Rattle.env_sets.specs.Sets.{entry_denotes}
use Rattle.env_sets.proofs.same.same_pairs.Given as goal

abbrev pub invariant-loop-i : goal.invariant-loop-i
invariant-loop-i l = (env : Environment) → entry_denotes (take l.i l.a) env ≡ entry_denotes (take l.i l.b) env
