use Rattle.std.proofs.Common.{◌≡◌, ◌&&◌, ◌+◌, ◌*◌, Bool, true, not, take}
use Rattle.smpl_terms.specs.declared.var.Var.{Var}
use Rattle.smpl_terms.specs.Environments.{Environment}
use Rattle.smpl_terms.specs.Values.{same}
use Rattle.std.specs.List.{list_any}
use Rattle.env_sets.specs.Sets.{set_denotes, set_vars}
use Rattle.env_sets.specs.Splits.{size_of}
use Rattle.env_sets.proofs.complements.+outside.Given as goal

abbrev pub decreases-outside : goal.decreases-outside
decreases-outside l = 3 * size_of l.a.now + 2

abbrev pub decreases-outside_at : goal.decreases-outside_at
decreases-outside_at l = 3 * size_of l.a.now + 1

abbrev pub decreases-split : goal.decreases-split
decreases-split l = 3 * size_of l.a.now

abbrev pub invariant-split-loop-i : goal.invariant-split-loop-i
invariant-split-loop-i l = record {
  meaning : (env : Environment) → set_denotes l.entries.items env ≡ (list_any (λ v. same v (env l.x)) (take l.i l.all) && not (set_denotes l.a env));
  vars : (t : Var → Bool) → set_vars t l.a ≡ true → set_vars t l.entries.items ≡ true;
}
