use Rattle.std.proofs.Common.{◌≡◌, ℕ, Bool, false, not, ap, get_or}
use Rattle.edit_bodies.proofs.GoneLemmas.{count_more, counts_more, few_more, longer}
use Rattle.edit_bodies.proofs.gone.staying_counts.Goals as goal

pub loop-leaf-preserved : goal.loop-leaf-preserved
loop-leaf-preserved c =
    let stays : ℕ → Bool = λ n. not (get_or c.args.removed.now n false) in
    let leaves = c.args.leaves.now in
    let i = c.loop-leaf.leaf-index in
    let h = c.loop-leaf.invariant in
    let next = c.count_after-count.result in
    let is = not c.flag_at.result in
    let own : is ≡ stays (get_or leaves i 0) = ap not c.flag_at.ensures in
    let count = count_more stays leaves i c.loop-leaf.count next is c.loop-leaf-test.true own c.count_after-count.ensures h.count in
    record {
      count = count;
      few = few_more is c.loop-leaf.count next i c.count_after-count.ensures h.few;
      long = longer c.loop-leaf.counts.items c.push-in-loop-leaf.new.self.items i next h.long c.in_ok-push-2.ensures.items;
      each = counts_more stays leaves c.loop-leaf.counts.items c.push-in-loop-leaf.new.self.items i next h.long c.in_ok-push-2.ensures.items h.each count;
    }
