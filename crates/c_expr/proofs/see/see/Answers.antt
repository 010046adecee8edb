use Rattle.std.proofs.Common.{◌≡◌, ◌-◌, drop, length, reverse, set, ap, arith}
use Rattle.std.proofs.lemmas.Grind.{common_steps}
use Rattle.c_rows.specs.Look.{look}
use Rattle.c_expr.proofs.EndsLemmas.{Tells, tells_start, tells_next, ends_here}
use Rattle.c_expr.proofs.SemicolonLemmas.{branches_start, branches_next}
use Rattle.c_expr.proofs.MemoLemmas.{right_none, right_before, right_after}
use Rattle.c_expr.proofs.SightLemmas.{sight_start, sight_turn, sight_next, look_end, same_length}
use Rattle.c_expr.proofs.see.see.Goals as goal

pub loop-i-init : goal.loop-i-init
loop-i-init c = record {
  even = c.in_ok-seen.ensures.value;
  fits = omega arith;
  next = look_end c.args.names.now c.args.tokens.now;
  ends = tells_start c.args.names.now c.args.tokens.now c.at_end-ends.result.classes.items c.at_end-ends.ensures;
  branches = branches_start c.args.tokens.now c.at_end-semicolons.result.flags.items c.at_end-semicolons.ensures;
  memo = right_none (length c.args.tokens.now) c.in_ok-seen.seen.items c.nothing-memo.result.entries.items c.nothing-memo.ensures;
  right = sight_start c.args.names.now _ c.args.tokens.now c.in_ok-seen.seen.items c.in_ok-seen.ensures.value;
}

pub is_marked-requires-clause-right : goal.is_marked-requires-clause-right
is_marked-requires-clause-right c = right_before c.loop-i.seen.items c.as_slice.result.now c.loop-i.i c.new.result _
    c.as_slice.ensures.value c.loop-i-test.true c.loop-i.invariant.memo

pub loop-i-preserved : goal.loop-i-preserved
loop-i-preserved c =
    let next : c.look-next.result ≡ look c.args.names.now (drop (c.loop-i.i - 1) c.args.tokens.now) =
    sight_next c.args.names.now c.args.tokens.now _ c.loop-i.i c.index-tokens-i.result c.look-next.result c.loop-i.next
    c.loop-i.invariant.fits c.loop-i-test.true c.index-tokens-i.is
    (grind (arith, common_steps)) c.look-next.ensures.value c.loop-i.invariant.next in
    let ends : Tells c.args.names.now (reverse c.pass.new.self.classes.items) (drop (c.loop-i.i - 1) c.args.tokens.now) =
    tells_next c.args.names.now c.args.tokens.now c.loop-i.i c.index-tokens-i.result c.look-next.result
    (reverse c.loop-i.ends.classes.items) (reverse c.pass.new.self.classes.items) c.loop-i-test.true
    c.loop-i.invariant.fits next c.in_ok-pass.ensures c.loop-i.invariant.ends in
    record {
      even = same_length c.loop-i.seen.items _ _ c.new.result c.new-in-loop-i.result c.loop-i.invariant.even;
      fits = omega (arith, c.loop-i.invariant.fits);
      next = next;
      ends = ends;
      branches = branches_next c.args.tokens.now c.loop-i.i c.index-tokens-i-in-loop-i.result c.group_at.result
          (reverse c.loop-i.semicolons.flags.items) (reverse c.pass-in-loop-i.new.self.flags.items) c.loop-i-test.true c.loop-i.invariant.fits
          c.index-tokens-i-in-loop-i.is c.group_at.ensures.value c.in_ok-pass-2.ensures c.loop-i.invariant.branches;
      memo = right_after (set c.loop-i.seen.items (c.loop-i.i - 1) c.new.result) c.as_slice.result.now c.loop-i.i
          c.new-in-loop-i.result _ c.as_slice.ensures.value c.in_ok-typed.ensures.right;
      right = sight_turn c.args.names.now c.args.tokens.now _ c.loop-i.seen.items c.loop-i.i c.index-tokens-i.result
          c.index-tokens-i-in-loop-i-2.result c.index-tokens-i-in-loop-i-3.result c.look-next.result c.loop-i.next c.new.result
          c.new-in-loop-i.result c.in_ok-typed.typed c.leads_before-leads.result c.ends_member-ended.result _
          c.loop-i.invariant.even c.loop-i.invariant.fits c.loop-i-test.true c.index-tokens-i.is c.index-tokens-i-in-loop-i-2.is
          c.index-tokens-i-in-loop-i-3.is (grind (arith, common_steps)) c.look-next.ensures.value
          c.loop-i.invariant.next c.new.ensures.value c.new-in-loop-i.ensures.value (ap (drop (c.loop-i.i - 1)) c.as_slice.ensures.value)
          (ends_here c.args.names.now (reverse c.pass.new.self.classes.items)
          (drop (c.loop-i.i - 1) c.args.tokens.now) c.ends_member-ended.result c.nearest-in-loop-i.result
          c.ends_member-ended.ensures.value c.nearest-in-loop-i.ensures ends)
          c.in_ok-typed.ensures.value c.leads_before-leads.ensures c.loop-i.invariant.right;
    }
