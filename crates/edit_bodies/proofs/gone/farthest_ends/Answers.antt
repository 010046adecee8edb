use Rattle.std.proofs.Common.{◌<◌, ◌∙◌, arith, get_or, length}
use Rattle.edit_bodies.proofs.GoneLemmas.{ends_more}
use Rattle.edit_bodies.proofs.gone.farthest_ends.Goals as goal

pub loop-range-preserved : goal.loop-range-preserved
loop-range-preserved c = record {
  len = c.put_end.ensures.len ∙ c.loop-range.invariant.len;
  each = λ from to less more.
      let here : from < length c.loop-range.ends.items = omega (arith, less, c.put_end.ensures.len) in
      ends_more c.args.ranges.now c.loop-range.range-index _ from to (get_or c.loop-range.ends.items from 0) (get_or c.put_end.new.ends.items from 0)
      c.loop-range-test.true (c.put_end.ensures.ends from here) (c.loop-range.invariant.each from to here more);
}
