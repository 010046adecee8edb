use Rattle.std.proofs.Common.{◌≡◌, ◌||◌, Bool, true, take}
use Rattle.std.specs.List.{list_any}
use Rattle.smpl_terms.specs.declared.var.Var.{Var}
use Rattle.smpl_terms.specs.Values.{same}
use Rattle.smpl_terms.specs.Environments.{Environment}
use Rattle.env_sets.specs.Sets.{set_denotes, set_vars}
use Rattle.env_sets.proofs.algebra.split_lone.Given as goal

abbrev pub invariant-loop-e : goal.invariant-loop-e
invariant-loop-e l = record {
  meaning : (env : Environment) → (list_any (λ v. same v (env l.x)) l.fixed.items || set_denotes l.others.items env) ≡ set_denotes (take l.e-index l.b) env;
  vars : (t : Var → Bool) → set_vars t (take l.e-index l.b) ≡ true → set_vars t l.others.items ≡ true;
}
