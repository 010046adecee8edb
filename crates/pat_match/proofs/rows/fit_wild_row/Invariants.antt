use Rattle.std.proofs.Common.{◌≡◌, ℕ, ◌&&◌, nat_lt, Bool, true}
use Rattle.std.specs.List.{list_all}
use Rattle.smpl_terms.specs.declared.var.Var.{Var}
use Rattle.smpl_terms.specs.Environments.{Environment}
use Rattle.pat_match.specs.Vars.{form_vars}
use Rattle.pat_match.specs.Rows.{comma_before, row_at, row_vars, step_at}
use Rattle.pat_match.proofs.rows.fit_wild_row.Given as goal

abbrev pub invariant-loop-from : goal.invariant-loop-from
invariant-loop-from l = record {
  meaning : (n : ℕ) (env : Environment) → row_at l.out.items n env
      ≡ (nat_lt n l.from && step_at l.context.decls.now l.context.tokens.now l.context.types.now l.child.label
      (comma_before l.child.forms.now l.child.i) l.child.form.now l.members l.row n env);
  vars : (t : Var → Bool) → list_all (form_vars l.context.decls.now l.context.tokens.now t) l.child.forms.now ≡ true
      → form_vars l.context.decls.now l.context.tokens.now t l.child.form.now ≡ true
      → row_vars t l.row ≡ true → row_vars t l.out.items ≡ true;
}
