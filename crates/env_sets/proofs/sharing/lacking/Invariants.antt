use Rattle.std.proofs.Common.{◌≡◌, ◌||◌, Bool, true, take}
use Rattle.smpl_terms.specs.declared.var.Var.{Var}
use Rattle.smpl_terms.specs.Environments.{Environment}
use Rattle.env_sets.specs.Sets.{set_denotes, set_vars}
use Rattle.env_sets.proofs.sharing.lacking.Given as goal

abbrev pub invariant-loop-e : goal.invariant-loop-e
invariant-loop-e l = record {
  meaning : (env : Environment) → (set_denotes l.set env || set_denotes l.few.items env)
      ≡ (set_denotes l.set env || set_denotes (take l.e-index l.entries) env);
  vars : (t : Var → Bool) → set_vars t (take l.e-index l.entries) ≡ true → set_vars t l.few.items ≡ true;
}
