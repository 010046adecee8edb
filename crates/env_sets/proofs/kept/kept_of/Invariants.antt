use Rattle.std.proofs.Common.{◌≡◌, Bool, true}
use Rattle.smpl_terms.specs.declared.var.Var.{Var}
use Rattle.smpl_terms.specs.Environments.{Environment}
use Rattle.env_sets.specs.Sets.{set_denotes, set_vars}
use Rattle.env_sets.proofs.kept.kept_of.Given as goal

abbrev pub invariant-loop-e : goal.invariant-loop-e
invariant-loop-e l = record {
  meaning : (env : Environment) → set_denotes l.kept env ≡ set_denotes l.yielded env;
  vars : (t : Var → Bool) → set_vars t l.yielded ≡ true → set_vars t l.kept ≡ true;
}
