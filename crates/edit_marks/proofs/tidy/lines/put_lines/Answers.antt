use Rattle.std.proofs.Common.{◌≡◌, ◌-◌, ap, refl, ◌∙◌, arith, length, take, drop, length-drop}
use Rattle.std.proofs.lemmas.List.{take_rest}
use Rattle.edit_marks.proofs.Tidied.WordLemmas.{lines_more}
use Rattle.edit_marks.proofs.tidy.lines.put_lines.Goals as goal

pub loop-number-preserved : goal.loop-number-preserved
loop-number-preserved c =
    let words = c.args.words.now in
    let from = c.loop-number.from in
    let rest = take (length words - from) (drop from words) in
    let count = c.count_at-count.result in
    let long : length rest ≡ length words - from = ap length (take_rest words from) ∙ length-drop from words in
    record {
      within = omega (arith, c.loop-number.invariant.within, c.count_at-count.ensures.within, long);
      written = lines_more c.args.lead c.args.joint.now c.loop-number.number c.args.lines words from count rest (take count rest)
          c.loop-number.out.items c.put_joint.new.out.items c.put_words.new.out.items _ c.loop-number-test.true (take_rest words from)
          c.count_at-count.ensures.value refl
          c.in_ok-put_joint.ensures c.in_ok-put_words.ensures c.loop-number.invariant.written;
    }
