use Rattle.std.proofs.Common.{◌≡◌, take}
use Rattle.smpl_terms.specs.Environments.{Environment}
use Rattle.env_sets.specs.Sets.{set_denotes}
use Rattle.env_sets.proofs.same.same_entries.Given as goal

abbrev pub invariant-loop-i : goal.invariant-loop-i
invariant-loop-i l = (env : Environment) → set_denotes (take l.i l.a) env ≡ set_denotes (take l.i l.b) env
