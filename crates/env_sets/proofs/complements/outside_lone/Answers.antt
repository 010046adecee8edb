use Rattle.std.proofs.Common.{◌&&◌, ◌||◌, not, ap, sym, ◌∙◌, arith, take}
use Rattle.std.specs.List.{list_any}
use Rattle.smpl_terms.specs.Values.{same}
use Rattle.env_sets.specs.Sets.{set_denotes}
use Rattle.env_sets.specs.Splits.{are_allowed}
use Rattle.env_sets.proofs.LoopLemmas.{any_step}
use Rattle.env_sets.proofs.PartLemmas.{allowed_alike}
use Rattle.env_sets.proofs.SplitLemmas.{complement_step}
use Rattle.env_sets.proofs.complements.outside_lone.Goals as goal

pub loop-v-preserved : goal.loop-v-preserved
loop-v-preserved c = record {
  meaning = λ env.
      let v = c.v-item.result in
      let x = c.args.x.now in
      let fixed = c.args.parts.now.fixed in
      let others = c.args.parts.now.others in
      c.in_ok-put_outside.ensures.meaning env
      ∙ ap (λ b. b || (not (are_allowed x v fixed others) && same v (env x))) (c.loop-v.invariant.meaning env)
      ∙ complement_step (list_any (λ w. same w (env x)) (take c.loop-v.v-index c.args.values.now)) (same v (env x))
      (are_allowed x v fixed others) (list_any (λ w. same w (env x)) fixed || set_denotes others env)
      (λ yes. allowed_alike x v env fixed others c.requires.lone yes)
      ∙ ap (λ b. b && not (list_any (λ w. same w (env x)) fixed || set_denotes others env))
      (sym (any_step (λ w. same w (env x)) c.args.values.now c.loop-v.v-index v (omega arith) c.v-item.is));
  vars = λ t h. c.in_ok-put_outside.ensures.vars t (c.loop-v.invariant.vars t h) h;
}
