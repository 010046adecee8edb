use Rattle.std.proofs.Common.{◌≡◌, Bool, true}
use Rattle.smpl_terms.specs.declared.var.Var.{Var}
use Rattle.smpl_terms.specs.Environments.{Environment}
use Rattle.env_sets.specs.Sets.{set_denotes, set_vars}
use Rattle.env_sets.proofs.lone.wider_entries.Given as goal

abbrev pub invariant-loop-i : goal.invariant-loop-i
invariant-loop-i l = record {
  within : (env : Environment) → set_denotes l.wider.items env ≡ true → set_denotes l.entries env ≡ true;
  vars : (t : Var → Bool) → set_vars t l.entries ≡ true → set_vars t l.wider.items ≡ true;
}
