use Rattle.std.proofs.Common.{◌≡◌, ◌&&◌, not, true, take, sym, ap, ◌∙◌, arith}
use Rattle.std.specs.List.{list_all}
use Rattle.smpl_terms.specs.declared.value.Value.TheVariants.{Place}
use Rattle.smpl_terms.specs.Values.{same}
use Rattle.env_sets.specs.Sets.{set_denotes, set_vars}
use Rattle.env_sets.proofs.LoopLemmas.{all_step, both_parts}
use Rattle.pat_match.specs.Vars.{place_vars}
use Rattle.pat_match.specs.Tokens.{not_places, is_place}
use Rattle.pat_match.proofs.NarrowLemmas.{two_more}
use Rattle.pat_match.proofs.tokens.with_positions.Goals as goal

pub loop-x-preserved : goal.loop-x-preserved
loop-x-preserved c = record {
  meaning = λ env.
      let s = set_denotes c.args.set env in
      let before = list_all (is_place c.args.decls.now env c.args.id) (take c.loop-x.x-index c.args.positions.now) in
      let here = same (Place c.args.id) (env c.x-item.result) in
      let apart = list_all (λ y. not (same (Place c.args.id) (env y))) (not_places c.args.decls.now c.x-item.result) in
      c.in_ok-out-2.ensures.meaning env
      ∙ ap (λ d. d && apart) (c.in_ok-out.ensures.meaning env
      ∙ ap (λ d. d && set_denotes c.in_ok-here.here env) (c.loop-x.invariant.meaning env)
      ∙ ap (λ d. (s && before) && d) (c.in_ok-here.ensures.meaning env))
      ∙ two_more s before here apart
      ∙ ap (λ d. s && d) (sym (all_step (is_place c.args.decls.now env c.args.id) c.args.positions.now c.loop-x.x-index
      c.x-item.result (omega arith) c.x-item.is));
  vars = λ t own all.
      let parts = both_parts _ _ (sym (all_step (place_vars c.args.decls.now t) c.args.positions.now c.loop-x.x-index
      c.x-item.result (omega arith) c.x-item.is) ∙ all) in
      let here = both_parts (t c.x-item.result) (list_all t (not_places c.args.decls.now c.x-item.result)) parts.1 in
      c.in_ok-out-2.ensures.vars t
      (c.in_ok-out.ensures.vars t (c.loop-x.invariant.vars t own parts.0)
      (ap (set_vars t) c.in_ok-here.ensures.entries ∙ ap (λ b. (b && true) && true) here.0))
      here.1;
}
