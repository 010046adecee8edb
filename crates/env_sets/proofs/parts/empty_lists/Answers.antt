use Rattle.std.proofs.Common.{◌∙◌, ap, [], arith, length, get_or}
use Rattle.std.proofs.lemmas.List.{length_push}
use Rattle.env_sets.proofs.PartLemmas.{empty_more}
use Rattle.env_sets.proofs.parts.empty_lists.Goals as goal

pub loop-alloc-preserved : goal.loop-alloc-preserved
loop-alloc-preserved c = record {
  count = omega (arith, ap length c.in_ok-push.ensures.items ∙ length_push c.loop-alloc.parts.items c.none.result, c.loop-alloc-test.true);
  empty = λ k. ap (λ ps. get_or ps k []) c.in_ok-push.ensures.items
      ∙ empty_more c.loop-alloc.parts.items c.none.result k c.none.ensures.entries c.loop-alloc.invariant.empty;
}
