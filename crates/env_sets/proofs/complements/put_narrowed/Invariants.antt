use Rattle.std.proofs.Common.{◌≡◌, ◌&&◌, ◌||◌, Bool, true}
use Rattle.smpl_terms.specs.declared.var.Var.{Var}
use Rattle.smpl_terms.specs.Environments.{Environment}
use Rattle.env_sets.specs.Bounds.{fits}
use Rattle.env_sets.specs.Sets.{set_denotes, set_vars}
use Rattle.env_sets.proofs.complements.put_narrowed.Given as goal

abbrev pub invariant-loop-e : goal.invariant-loop-e
invariant-loop-e l = record {
  meaning : (env : Environment) → set_denotes l.out.items env ≡ (set_denotes l.initial.out.items env || (set_denotes l.yielded env && fits (env l.x) l.bound));
  vars : (t : Var → Bool) → set_vars t l.initial.out.items ≡ true → set_vars t l.yielded ≡ true → t l.x ≡ true → set_vars t l.out.items ≡ true;
}
