use Rattle.std.proofs.Common.{◌≡◌, Bool, true, take}
use Rattle.std.specs.List.{list_any, list_all}
use Rattle.smpl_terms.specs.declared.var.Var.{Var}
use Rattle.smpl_terms.specs.Environments.{Environment}
use Rattle.env_sets.specs.Sets.{set_denotes, set_vars}
use Rattle.pat_match.specs.Vars.{form_vars}
use Rattle.pat_match.specs.Rows.{comma_before, row_vars, wild_entry}
use Rattle.pat_match.proofs.rows.fit_some_run.Given as goal

abbrev pub invariant-loop-entry : goal.invariant-loop-entry
invariant-loop-entry l = record {
  meaning : (env : Environment) → set_denotes l.entries.items env
      ≡ list_any (wild_entry l.context.decls.now l.context.tokens.now l.context.types.now l.child.label
      (comma_before l.child.forms.now l.child.i) l.child.form.now l.members l.from env) (take l.entry-index l.row);
  vars : (t : Var → Bool) → list_all (form_vars l.context.decls.now l.context.tokens.now t) l.child.forms.now ≡ true
      → form_vars l.context.decls.now l.context.tokens.now t l.child.form.now ≡ true
      → row_vars t (take l.entry-index l.row) ≡ true → set_vars t l.entries.items ≡ true;
}
