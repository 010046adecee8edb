use Rattle.std.proofs.Common.{◌≡◌, ◌||◌, Bool, true, drop}
use Rattle.std.specs.List.{list_any}
use Rattle.c_terms.specs.Trees.{levels}
use Rattle.smpl_terms.specs.declared.var.Var.{Var}
use Rattle.smpl_terms.specs.Environments.{Environment}
use Rattle.env_sets.specs.Sets.{set_denotes, set_vars}
use Rattle.pat_match.specs.Fitting.{fits_tree}
use Rattle.c_terms.specs.Places.{parts}
use Rattle.c_terms.specs.Shapes.{is_expression_part}
use Rattle.pat_match.specs.Vars.{form_vars}
use Rattle.pat_match.proofs.InsideLemmas.{kids_parts}
use Rattle.pat_match.proofs.inside.+put_child.Given as goal

abbrev pub invariant-loop-j : goal.invariant-loop-j
invariant-loop-j l = record {
  meaning : (env : Environment) → (set_denotes l.entries.items env
      || list_any (λ s. fits_tree l.context.decls.now l.context.tokens.now l.context.types.now env l.form s.tree)
      (kids_parts l.inner l.j (drop l.j l.below-items)))
      ≡ (set_denotes l.initial.entries.items env
      || list_any (λ s. fits_tree l.context.decls.now l.context.tokens.now l.context.types.now env l.form s.tree) (parts is_expression_part l.child));
  vars : (t : Var → Bool) → form_vars l.context.decls.now l.context.tokens.now t l.form ≡ true
      → set_vars t l.initial.entries.items ≡ true → set_vars t l.entries.items ≡ true;
}

abbrev pub decreases-put_child : goal.decreases-put_child
decreases-put_child l = levels l.child.now
