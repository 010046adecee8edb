use Rattle.std.proofs.Common.{◌||◌, ap, sym, ◌∙◌, arith}
use Rattle.smpl_terms.specs.Vars.{same_var}
use Rattle.env_sets.specs.Sets.{entry_vars, set_denotes, set_vars}
use Rattle.env_sets.proofs.LoopLemmas.{project_step, all_step, denotes_one, vars_one, both_parts}
use Rattle.env_sets.proofs.PairLemmas.{both_true}
use Rattle.env_sets.proofs.algebra.projected.Goals as goal

pub loop-e-preserved : goal.loop-e-preserved
loop-e-preserved c = record {
  meaning = λ env. project_step c.args.a.now c.loop-e.e-index c.e-item.result c.args.v.now env _ _ _ (omega arith) c.e-item.is
      (ap (λ es. set_denotes es env) c.in_ok-push.ensures.items ∙ denotes_one c.loop-e.entries.items c.in_ok-without.field-0 env)
      (c.loop-e.invariant.meaning env) (c.in_ok-without.ensures.meaning env);
  vars = λ t h.
      let parts = both_parts _ _ (sym (all_step
      (λ e. entry_vars (λ y. t y || same_var y c.args.v.now) e) c.args.a.now c.loop-e.e-index c.e-item.result (omega arith) c.e-item.is) ∙ h) in
      ap (set_vars t) c.in_ok-push.ensures.items
      ∙ vars_one c.loop-e.entries.items c.in_ok-without.field-0 t
      ∙ both_true _ _ (c.loop-e.invariant.vars t parts.0) (c.in_ok-without.ensures.vars t parts.1);
}
