use Rattle.edit_bodies.specs.Gone.{is_gone}
use Rattle.edit_bodies.proofs.GoneLemmas.{filter_push}
use Rattle.edit_bodies.proofs.gone.gone_ranges.Goals as goal

pub loop-range-preserved : goal.loop-range-preserved
loop-range-preserved c = λ goes leaves are.
    filter_push (is_gone goes leaves) c.args.ranges.now c.loop-range.range-index _ c.is_gone.result c.loop-range.gone.items c.push_if.new.ranges.items
    c.loop-range-test.true (c.is_gone.ensures goes leaves are) c.in_ok-push_if.ensures (c.loop-range.invariant goes leaves are)
