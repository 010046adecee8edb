use Rattle.std.proofs.Common.{rules, ◌∷◌, [], ◌∙◌, ap, length, length-append, ◌+◌, ℕ}
use Rattle.edit_bodies.proofs.GoneLemmas.{before_end, before_more, ends_start}
use Rattle.edit_bodies.proofs.gone.ends_before.Goals as goal

pub loop-end-init : goal.loop-end-init
loop-end-init c = record {
  len = search rules;
  ends = λ ranges are. ends_start ranges c.in_ok-before.before.items;
}

pub loop-end-preserved : goal.loop-end-preserved
loop-end-preserved c =
    let h = c.loop-end.invariant in
    let made = c.in_ok-push.ensures.items in
    record {
      len = ap length made ∙ length-append c.loop-end.before.items (c.loop-end.farthest ∷ []) ∙ ap (λ (n : ℕ). n + 1) h.len;
      ends = λ ranges are. before_more ranges c.args.ends.now c.loop-end.before.items c.push.new.self.items c.loop-end.end-index c.loop-end.farthest
          c.max-farthest.result are c.loop-end-test.true h.len made c.max-farthest.ensures (h.ends ranges are);
    }

pub returns-clause-ends : goal.returns-clause-ends
returns-clause-ends c = λ ranges are.
    before_end ranges c.loop-end.before.items c.loop-end.end-index c.loop-end.farthest c.loop-end.invariant.len (c.loop-end.invariant.ends ranges are)
