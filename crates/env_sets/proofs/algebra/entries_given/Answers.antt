use Rattle.std.proofs.Common.{◌||◌, ap, sym, ◌∙◌, arith}
use Rattle.smpl_terms.specs.Environments.{over, has_value}
use Rattle.env_sets.specs.Sets.{entry_denotes, entry_vars, set_denotes, set_vars}
use Rattle.env_sets.proofs.LoopLemmas.{any_step, all_step, denotes_some, vars_some, both_parts}
use Rattle.env_sets.proofs.PairLemmas.{both_true}
use Rattle.env_sets.proofs.algebra.entries_given.Goals as goal

pub loop-e-preserved : goal.loop-e-preserved
loop-e-preserved c = record {
  meaning = λ rest.
      ap (λ es. set_denotes es rest) c.in_ok-put_some.ensures
      ∙ denotes_some c.loop-e.entries.items c.in_ok-entry_given.field-0 rest
      ∙ (λ i. c.loop-e.invariant.meaning rest i || c.in_ok-entry_given.ensures.meaning rest i)
      ∙ sym (any_step (λ e. entry_denotes e (over c.args.env.now rest)) c.args.a.now c.loop-e.e-index c.e-item.result (omega arith) c.e-item.is);
  vars = λ t h.
      let parts = both_parts _ _ (sym (all_step
      (λ e. entry_vars (λ x. t x || has_value c.args.env.now x) e) c.args.a.now c.loop-e.e-index c.e-item.result (omega arith) c.e-item.is) ∙ h) in
      ap (set_vars t) c.in_ok-put_some.ensures
      ∙ vars_some c.loop-e.entries.items c.in_ok-entry_given.field-0 t
      ∙ both_true _ _ (c.loop-e.invariant.vars t parts.0) (c.in_ok-entry_given.ensures.vars t parts.1);
}
