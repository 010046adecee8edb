use Rattle.std.proofs.Common.{◌≡◌, min, length, sym, ◌∙◌, arith}
use Rattle.c_terms.proofs.OrderLemmas.{slice_cmp_end}
use Rattle.env_parts.specs.Parts as of
use Rattle.env_parts.proofs.order.pairs_order.Goals as goal

pub returns : goal.returns
returns c =
    let e : c.loop-i.i ≡ min (length c.args.a.now) (length c.args.b.now) = omega arith in
    c.cmp.ensures ∙ sym (slice_cmp_end of.pair_order c.args.a.now c.args.b.now c.loop-i.i e) ∙ c.loop-i.invariant.rest
