use Rattle.std.proofs.Common.{◌≡◌, ◌||◌, Bool, true, take}
use Rattle.std.specs.Bool.{Decides}
use Rattle.smpl_terms.specs.declared.var.Var.{Var}
use Rattle.smpl_terms.specs.Vars.{same_var}
use Rattle.smpl_terms.specs.Environments.{Environment, change}
use Rattle.env_sets.specs.Sets.{set_denotes, set_vars, ForSomeValue}
use Rattle.env_sets.proofs.algebra.projected.Given as goal

abbrev pub invariant-loop-e : goal.invariant-loop-e
invariant-loop-e l = record {
  meaning : (env : Environment) → Decides (set_denotes l.entries.items env) (ForSomeValue (λ w. set_denotes (take l.e-index l.a) (change env l.v w)));
  vars : (t : Var → Bool) → set_vars (λ y. t y || same_var y l.v) (take l.e-index l.a) ≡ true → set_vars t l.entries.items ≡ true;
}
