use Rattle.std.proofs.Common.{◌+◌, ◌-◌, ◌/◌, arith}
use Rattle.smpl_terms.specs.Environments.{total}
use Rattle.env_sets.proofs.AscendingLemmas.{front_misses_at, is_before}
use Rattle.env_sets.proofs.ascending.first_not_before.Goals as goal

pub loop-low-preserved-then-is_lt : goal.loop-low-preserved-then-is_lt
loop-low-preserved-then-is_lt c = record {
  order = omega arith;
  within = c.loop-low.invariant.within;
  front = front_misses_at c.args.entries.now (c.loop-low.low + (c.loop-low.high - c.loop-low.low) / 2)
      (c.loop-low.low + (c.loop-low.high - c.loop-low.low) / 2 + 1)
      c.index-entries-middle.result (total c.args.env.now) c.requires (omega arith) c.index-entries-middle.is
      (is_before c.index-entries-middle.result c.pairs.result.now
      (total c.args.env.now) c.entry_side.result c.pairs.ensures.pairs c.entry_side.ensures c.if-is_lt.ensures)
      (omega arith);
}
