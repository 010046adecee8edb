use Rattle.std.proofs.Common.{◌≡◌, not, true}
use Rattle.smpl_terms.specs.Environments.{Environment}
use Rattle.smpl_terms.specs.Values.{same}
use Rattle.std.specs.List.{list_any}
use Rattle.env_sets.specs.Sets.{set_denotes}
use Rattle.env_sets.proofs.lone.excluded_by_all.Given as goal

abbrev pub invariant-loop-i : goal.invariant-loop-i
invariant-loop-i l = (env : Environment) → not (list_any (λ v. same v (env l.x)) l.left) ≡ true → set_denotes l.entries env ≡ true
