use Rattle.std.proofs.Common.{◌≡◌, Bool, true, false, take}
use Rattle.smpl_terms.specs.declared.var.Var.{Var}
use Rattle.smpl_terms.specs.Environments.{Environment}
use Rattle.env_sets.specs.Sets.{set_denotes, set_vars}
use Rattle.ctl_fixpoint.specs.CtlHolds.Rounds.{passes}
use Rattle.ctl_fixpoint.specs.Steps.{has, row_vars}
use Rattle.ctl_fixpoint.proofs.rows.some_of.Given as goal

abbrev pub invariant-loop-k : goal.invariant-loop-k
invariant-loop-k l = record {
  gives : (env : Environment) → set_denotes l.entries.items env ≡ passes false (λ k. has l.x k env) (take l.k-index l.next);
  vars : (test : Var → Bool) → row_vars test l.x ≡ true → set_vars test l.entries.items ≡ true;
}
