use Rattle.std.proofs.Common.{◌≡◌, ◌&&◌, Bool, true, take}
use Rattle.smpl_terms.specs.declared.var.Var.{Var}
use Rattle.smpl_terms.specs.Environments.{Environment}
use Rattle.env_sets.specs.Sets.{set_denotes, set_vars}
use Rattle.env_sets.proofs.algebra.meet_pairs.Given as goal

abbrev pub invariant-loop-e : goal.invariant-loop-e
invariant-loop-e l = record {
  meaning : (env : Environment) → set_denotes l.entries.items env ≡ (set_denotes (take l.e-index l.a) env && set_denotes l.b env);
  vars : (t : Var → Bool) → set_vars t (take l.e-index l.a) ≡ true → set_vars t l.b ≡ true → set_vars t l.entries.items ≡ true;
}
