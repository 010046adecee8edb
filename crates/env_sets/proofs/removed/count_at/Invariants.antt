use Rattle.std.proofs.Common.{◌≡◌, false, take}
use Rattle.smpl_terms.specs.Environments.{Environment}
use Rattle.smpl_terms.specs.Values.{same}
use Rattle.env_sets.specs.Sets.{set_denotes}
use Rattle.env_sets.proofs.removed.count_at.Given as goal

abbrev pub invariant-loop-i : goal.invariant-loop-i
invariant-loop-i l = (env : Environment) → same l.v (env l.x) ≡ false → set_denotes (take l.i l.entries) env ≡ false
