use Rattle.std.proofs.Common.{◌||◌, take, sym, ap, ◌∙◌, arith}
use Rattle.env_sets.specs.Sets.{entry_denotes, entry_vars, set_denotes}
use Rattle.env_sets.proofs.LoopLemmas.{any_step, all_step, both_parts}
use Rattle.env_sets.proofs.RunLemmas.{or_more}
use Rattle.env_sets.proofs.sharing.lacking.Goals as goal

pub loop-e-preserved : goal.loop-e-preserved
loop-e-preserved c = record {
  meaning = λ env.
      c.in_ok-put_if_lacking.ensures.meaning env
      ∙ or_more _ (set_denotes c.args.set.now env) (set_denotes (take c.loop-e.e-index c.args.entries.now) env)
      (entry_denotes c.e-item.result env) (c.loop-e.invariant.meaning env)
      ∙ ap (λ b. set_denotes c.args.set.now env || b)
      (sym (any_step (λ e. entry_denotes e env) c.args.entries.now c.loop-e.e-index c.e-item.result (omega arith) c.e-item.is));
  vars = λ t h.
      let parts = both_parts _ _ (sym (all_step (λ e. entry_vars t e) c.args.entries.now c.loop-e.e-index c.e-item.result (omega arith) c.e-item.is) ∙ h) in
      c.in_ok-put_if_lacking.ensures.vars t (c.loop-e.invariant.vars t parts.0) parts.1;
}
