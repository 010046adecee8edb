use Rattle.std.proofs.Common.{◌≡◌, Bool, true, ◌||◌, drop, length}
use Rattle.std.specs.List.{list_any}
use Rattle.smpl_terms.specs.declared.var.Var.{Var}
use Rattle.smpl_terms.specs.Environments.{Environment}
use Rattle.env_sets.specs.Sets.{set_denotes, set_vars}
use Rattle.pat_match.specs.Vars.{pattern_vars}
use Rattle.ctl_fixpoint.specs.RequiredWords.FormGroups.{Covers, fits_some}
use Rattle.ctl_fixpoint.proofs.required_words.solving.solve_runs.Given as goal

abbrev pub invariant-loop-n : goal.invariant-loop-n
invariant-loop-n l = record {
  covers : Covers l.target.p.now.spot l.target.p.now.forms l.next (drop l.n l.form_groups) (length l.target.p.now.forms);
  meaning : (env : Environment) →
      (set_denotes l.entries.items env || list_any
      (fits_some l.target.context.now.decls.now l.target.context.now.tokens.now l.target.context.now.types.now env l.target.p.now l.target.role
      l.target.tree.now) (drop l.next l.target.p.now.forms))
      ≡ list_any (fits_some l.target.context.now.decls.now l.target.context.now.tokens.now l.target.context.now.types.now env l.target.p.now l.target.role
      l.target.tree.now) l.target.p.now.forms;
  vars : (t : Var → Bool) → pattern_vars l.target.context.now.decls.now l.target.context.now.tokens.now t l.target.p.now ≡ true
      → set_vars t l.entries.items ≡ true;
}
