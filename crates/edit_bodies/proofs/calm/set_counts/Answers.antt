use Rattle.std.proofs.Common.{refl}
use Rattle.edit_bodies.proofs.CalmLemmas.{count_more, counts_more, longer}
use Rattle.edit_bodies.proofs.GoneLemmas.{few_more}
use Rattle.edit_bodies.proofs.calm.set_counts.Goals as goal

pub loop-flag-preserved : goal.loop-flag-preserved
loop-flag-preserved c =
    let flags = c.args.flags.now in
    let i = c.loop-flag.flag-index in
    let h = c.loop-flag.invariant in
    let next = c.count_after-count.result in
    let count = count_more flags i c.loop-flag.count next _ c.loop-flag-test.true refl c.count_after-count.ensures h.count in
    record {
      count = count;
      few = few_more _ c.loop-flag.count next i c.count_after-count.ensures h.few;
      long = longer c.loop-flag.counts.items c.push.new.self.items i next h.long c.in_ok-push.ensures.items;
      each = counts_more flags c.loop-flag.counts.items c.push.new.self.items i next h.long c.in_ok-push.ensures.items h.each count;
    }
