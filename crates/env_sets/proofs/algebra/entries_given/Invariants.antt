use Rattle.std.proofs.Common.{◌≡◌, ◌||◌, Bool, true, take}
use Rattle.smpl_terms.specs.declared.var.Var.{Var}
use Rattle.smpl_terms.specs.Environments.{Environment, over, has_value}
use Rattle.env_sets.specs.Sets.{set_denotes, set_vars}
use Rattle.env_sets.proofs.algebra.entries_given.Given as goal

abbrev pub invariant-loop-e : goal.invariant-loop-e
invariant-loop-e l = record {
  meaning : (rest : Environment) → set_denotes l.entries.items rest ≡ set_denotes (take l.e-index l.a) (over l.env rest);
  vars : (t : Var → Bool) → set_vars (λ x. t x || has_value l.env x) (take l.e-index l.a) ≡ true → set_vars t l.entries.items ≡ true;
}
