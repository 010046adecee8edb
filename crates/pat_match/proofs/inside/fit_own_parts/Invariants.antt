use Rattle.std.proofs.Common.{◌≡◌, ◌||◌, Bool, true, drop, length}
use Rattle.std.specs.List.{list_any}
use Rattle.smpl_terms.specs.declared.var.Var.{Var}
use Rattle.smpl_terms.specs.Environments.{Environment}
use Rattle.env_sets.specs.Sets.{set_denotes, set_vars}
use Rattle.cfg_build.specs.CfgGraph.Own.{is_own}
use Rattle.pat_match.specs.Fitting.{fits_tree}
use Rattle.pat_match.specs.Spots.{own_parts_from}
use Rattle.pat_match.specs.Vars.{form_vars}
use Rattle.pat_match.proofs.inside.fit_own_parts.Given as goal

abbrev pub invariant-loop-i : goal.invariant-loop-i
invariant-loop-i l = record {
  meaning : (env : Environment) → (set_denotes l.entries.items env
      || list_any (λ s. fits_tree l.context.decls.now l.context.tokens.now l.context.types.now env l.form s.tree)
      (own_parts_from (is_own l.kind l.label (length l.children)) l.label l.i (drop l.i l.children)))
      ≡ list_any (λ s. fits_tree l.context.decls.now l.context.tokens.now l.context.types.now env l.form s.tree)
      (own_parts_from (is_own l.kind l.label (length l.children)) l.label 0 l.children);
  vars : (t : Var → Bool) → form_vars l.context.decls.now l.context.tokens.now t l.form ≡ true → set_vars t l.entries.items ≡ true;
}
