use Rattle.std.proofs.Common.{ap, ◌∙◌, arith, length}
use Rattle.std.proofs.lemmas.List.{length-set, get_or_default}
use Rattle.std.proofs.lemmas.Result.{IfOk-weaker}
use Rattle.smpl_terms.specs.Values.{same}
use Rattle.env_sets.proofs.PartLemmas.{parts_kept, parts_put, halfway_step, halfway_end}
use Rattle.env_sets.proofs.parts.put_where_allowed.Goals as goal

pub loop-k-preserved : goal.loop-k-preserved
loop-k-preserved c = record {
  count = ap length c.in_ok-put_if_allowed-in-None.ensures ∙ length-set c.loop-k.parts c.loop-k.k _ ∙ c.loop-k.invariant.count;
  meaning = λ es h.
      halfway_step c.args.x.now c.args.values.now es c.args.e.now c.loop-k.k c.index-values-k-in-loop-k.result c.loop-k.parts
      c.put_if_allowed-in-loop-k.new.parts
      c.loop-k-test.true c.index-values-k-in-loop-k.is c.in_ok-put_if_allowed-in-None.ensures (c.loop-k.invariant.meaning es h);
}

pub returns-in_ok-rest-in-Some-place_in_order : goal.returns-in_ok-rest-in-Some-place_in_order
returns-in_ok-rest-in-Some-place_in_order c = IfOk-weaker c.put_if_allowed.result _ _ (λ r is.
    let k = c.in-Some-place_in_order.k in
    let within = c.in-Some-place_in_order.ensures.0 in
    parts_put c.args.x.now c.args.values.now c.args.parts.now c.put_if_allowed.new.parts c.args.e.now c.in-Some.v.now c.index-values-k.result k
    c.requires.rise c.in-Some.ensures within c.index-values-k.is
    (ap (λ y. same y c.in-Some.v.now) (c.index-values-k.is
    ∙ get_or_default c.args.values.now k c.index-values-k.result c.in-Some.v.now within) ∙ c.in-Some-place_in_order.ensures.1)
    is) c.put_if_allowed.ensures

pub returns-in-None-place_in_order : goal.returns-in-None-place_in_order
returns-in-None-place_in_order c = parts_kept c.args.x.now c.args.values.now c.args.parts.now c.args.e.now c.in-Some.v.now
    c.in-Some.ensures c.in-None-place_in_order.ensures

pub returns-after-loop-k : goal.returns-after-loop-k
returns-after-loop-k c = λ es h. halfway_end c.args.x.now c.args.values.now es c.args.e.now c.loop-k.k c.loop-k.parts
    (omega (arith, c.loop-k-test.false)) (c.loop-k.invariant.meaning es h)
