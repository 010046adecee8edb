use Rattle.std.proofs.Common.{◌≡◌, Bool, true, ◌||◌}
use Rattle.smpl_terms.specs.declared.var.Var.{Var}
use Rattle.smpl_terms.specs.Vars.{same_var}
use Rattle.ctl_fixpoint.specs.Steps.{row_vars, Projects}
use Rattle.ctl_fixpoint.proofs.until.exists_row.Given as goal

abbrev pub invariant-loop-set : goal.invariant-loop-set
invariant-loop-set l = record {
  gives : Projects l.set-index l.x l.row l.sets.items;
  vars : (test : Var → Bool) → row_vars (λ y. test y || same_var y l.x) l.row ≡ true → row_vars test l.sets.items ≡ true;
}
