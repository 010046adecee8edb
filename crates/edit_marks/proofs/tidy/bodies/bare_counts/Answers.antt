use Rattle.std.proofs.Common.{◌≡◌, ◌+◌, ◌∷◌, [], ℕ, ap, ◌∙◌, arith, get_or, length, length-append}
use Rattle.std.proofs.lemmas.List.{get_or_default}
use Rattle.edit_marks.specs.Tidy.Bodies.{acts_in, count_bare}
use Rattle.edit_marks.proofs.Tidied.FlagLemmas.{count_more, counts_more, few_more}
use Rattle.edit_marks.proofs.tidy.bodies.bare_counts.Goals as goal

pub loop-leaf-preserved : goal.loop-leaf-preserved
loop-leaf-preserved c =
    let at = acts_in c.args.changes.now in
    let leaves = c.args.leaves.now in
    let i = c.loop-leaf.leaf-index in
    let h = c.loop-leaf.invariant in
    let own = get_or leaves i 0 in
    let next = c.count_after-count.result in
    let less = c.loop-leaf-test.true in
    let count = count_more at leaves i own c.loop-leaf.count next c.is_bare_token.result less (get_or_default leaves i 0 own less) c.is_bare_token.ensures
    c.count_after-count.ensures h.count in
    record {
      count = count;
      few = few_more at c.is_bare_token.result c.loop-leaf.count next i c.count_after-count.ensures h.few;
      long = ap length c.in_ok-push-2.ensures.items ∙ length-append c.loop-leaf.counts.items (next ∷ []) ∙ ap (λ (n : ℕ). n + 1) h.long;
      each = counts_more at leaves c.loop-leaf.counts.items c.push-in-loop-leaf.new.self.items i next h.long c.in_ok-push-2.ensures.items h.each count;
    }
