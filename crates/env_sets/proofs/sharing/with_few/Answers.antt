use Rattle.std.proofs.Common.{◌||◌, take, sym, ap, ◌∙◌, arith}
use Rattle.env_sets.specs.Sets.{entry_denotes, entry_vars, set_denotes}
use Rattle.env_sets.proofs.LoopLemmas.{any_step, all_step, both_parts}
use Rattle.env_sets.proofs.RunLemmas.{or_group}
use Rattle.env_sets.proofs.sharing.with_few.Goals as goal

pub loop-e-preserved : goal.loop-e-preserved
loop-e-preserved c = record {
  meaning = λ env.
      (rw c.in-Some.is at c.in_ok-next.ensures.meaning) env
      ∙ ap (λ b. b || entry_denotes c.e-item.result env) (c.loop-e.invariant.meaning env)
      ∙ or_group (set_denotes c.args.set.now env) (set_denotes (take c.loop-e.e-index c.args.few.now) env) (entry_denotes c.e-item.result env)
      ∙ ap (λ b. set_denotes c.args.set.now env || b)
      (sym (any_step (λ e. entry_denotes e env) c.args.few.now c.loop-e.e-index c.e-item.result (omega arith) c.e-item.is));
  vars = λ t h k.
      let parts = both_parts _ _ (sym (all_step (λ e. entry_vars t e) c.args.few.now c.loop-e.e-index c.e-item.result (omega arith) c.e-item.is) ∙ k) in
      (rw c.in-Some.is at c.in_ok-next.ensures.vars) t (c.loop-e.invariant.vars t h parts.0) parts.1;
}
