use Rattle.std.proofs.Common.{◌&&◌, not, sym, ap, ◌∙◌, arith}
use Rattle.smpl_terms.specs.Values.{same}
use Rattle.env_sets.specs.Sets.{set_denotes}
use Rattle.env_sets.specs.Blocks.{all_entries}
use Rattle.env_sets.proofs.LoopLemmas.{any_step}
use Rattle.env_sets.proofs.SharingLemmas.{outside_more}
use Rattle.env_sets.proofs.sharing.blocks_outside.Goals as goal

pub loop-v-preserved : goal.loop-v-preserved
loop-v-preserved c = record {
  meaning = λ env.
      outside_more _ (set_denotes (all_entries c.args.rest.now) env) _ (same c.v-item.result (env c.args.x.now)) _
      ((rw c.in-Some.is at c.in_ok-next.ensures.meaning) env) (c.loop-v.invariant.meaning env)
      ∙ ap (λ b. set_denotes (all_entries c.args.rest.now) env && not b)
      (sym (any_step (λ v. same v (env c.args.x.now)) c.as_slice-v-items.result.now c.loop-v.v-index c.v-item.result (omega arith) c.v-item.is));
  vars = λ t h. (rw c.in-Some.is at c.in_ok-next.ensures.vars) t (c.loop-v.invariant.vars t h);
  order = rw c.in-Some.is at c.in_ok-next.ensures.order;
}
