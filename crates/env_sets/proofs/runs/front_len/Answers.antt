use Rattle.std.proofs.Common.{◌≡◌, ◌+◌, ◌-◌, ◌/◌, true, arith}
use Rattle.std.specs.Ordering.{is_lt}
use Rattle.smpl_terms.specs.Values.{value_order}
use Rattle.env_sets.proofs.RunLemmas.{front_less_at, less}
use Rattle.env_sets.proofs.runs.front_len.Goals as goal

pub loop-low-preserved-then-is_lt : goal.loop-low-preserved-then-is_lt
loop-low-preserved-then-is_lt c =
    let middle = c.loop-low.low + (c.loop-low.high - c.loop-low.low) / 2 in
    let before : is_lt (value_order c.index-items-middle.result c.args.v.now) ≡ true = cc in
    record {
      order = omega arith;
      within = c.loop-low.invariant.within;
      front = front_less_at c.args.items.now middle (middle + 1) c.index-items-middle.result c.args.v.now
          c.requires (omega arith) c.index-items-middle.is (less (value_order c.index-items-middle.result c.args.v.now) before) (omega arith);
      next = c.loop-low.invariant.next;
    }
