use Rattle.std.proofs.Common.{take, sym, subst, ◌∙◌}
use Rattle.smpl_meta.specs.Seen.{Knows}
use Rattle.smpl_meta.proofs.Walks.{items-step, one_longer}
use Rattle.smpl_meta.proofs.SeenLemmas.{knows-more}
use Rattle.smpl_meta.proofs.faults.with_items.Goals as goal

pub loop-i-preserved : goal.loop-i-preserved
loop-i-preserved c =
    let is = c.args.items.now in
    let i = c.loop-i.i in
    let item = c.index-items-i.result in
    record {
      faults = items-step c.args.earlier.now.heads is i item c.loop-i.first c.with_item-first.result _ c.is_seen.result
          c.loop-i-test.true c.index-items-i.is (c.is_seen.ensures ∙ c.loop-i.invariant.seen item) c.with_item-first.ensures c.loop-i.invariant.faults;
      seen = subst (Knows c.in_ok-seen.seen) (sym (one_longer is i item c.loop-i-test.true c.index-items-i.is))
          (knows-more c.loop-i.seen c.in_ok-seen.seen (take i is) item c.loop-i.invariant.seen c.in_ok-seen.ensures);
    }
