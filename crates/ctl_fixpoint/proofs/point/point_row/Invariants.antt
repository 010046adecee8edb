use Rattle.std.proofs.Common.{◌≡◌, ℕ, Bool, true}
use Rattle.smpl_terms.specs.declared.var.Var.{Var}
use Rattle.ctl_fixpoint.specs.Steps.{row_of, has, row_vars, step, step_vars, Gives}
use Rattle.ctl_fixpoint.proofs.point.point_row.Given as goal

abbrev pub invariant-loop-s : goal.invariant-loop-s
invariant-loop-s l = record {
  gives : Gives l.s l.sets.items (λ s env. step l.f.decls l.f.tokens l.g (λ i k. has (row_of l.rows i) k env) l.node s env);
  vars : (test : Var → Bool) → step_vars l.f.decls l.f.tokens (λ t i. row_vars t (row_of l.rows i)) test l.node ≡ true
      → row_vars test l.sets.items ≡ true;
}
