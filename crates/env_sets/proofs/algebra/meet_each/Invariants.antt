use Rattle.std.proofs.Common.{◌≡◌, ◌&&◌, ◌||◌, Bool, true, take}
use Rattle.smpl_terms.specs.declared.var.Var.{Var}
use Rattle.smpl_terms.specs.Environments.{Environment}
use Rattle.env_sets.specs.Sets.{entry_denotes, entry_vars, set_denotes, set_vars}
use Rattle.env_sets.proofs.algebra.meet_each.Given as goal

abbrev pub invariant-loop-f : goal.invariant-loop-f
invariant-loop-f l = record {
  meaning : (env : Environment) → set_denotes l.out.items env
      ≡ (set_denotes l.initial.out.items env || (entry_denotes l.e env && set_denotes (take l.f-index l.b) env));
  vars : (t : Var → Bool) → set_vars t l.initial.out.items ≡ true → entry_vars t l.e ≡ true
      → set_vars t (take l.f-index l.b) ≡ true → set_vars t l.out.items ≡ true;
}
