use Rattle.std.proofs.Common.{sym, arith}
use Rattle.smpl_terms.specs.Environments.{total}
use Rattle.env_sets.proofs.AscendingLemmas.{parts_miss, is_after}
use Rattle.env_sets.proofs.ascending.ascending_hold.Goals as goal

pub returns-then-is_gt : goal.returns-then-is_gt
returns-then-is_gt c =
    sym (parts_miss c.args.entries.now c.loop-i.i c.index-entries-i.result (total c.args.env.now) c.requires (omega arith) c.index-entries-i.is
    (is_after c.index-entries-i.result c.pairs.result.now
    (total c.args.env.now) c.entry_side.result c.pairs.ensures.pairs c.entry_side.ensures c.if-is_gt.ensures)
    c.loop-i.invariant)
